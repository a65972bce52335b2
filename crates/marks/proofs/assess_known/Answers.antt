use Rattle.marks.proofs.Small.{unit-small}
use Rattle.marks.proofs.assess_known.Goals as goal

pub judge-requires : goal.judge-requires
judge-requires c = rw c.unit_basis.ensures (unit-small _ _ _ c.requires.0 c.requires.1)
