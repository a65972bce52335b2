use Rattle.targets.specs.Targets.{member_at}
use Rattle.targets.proofs.Walks.{along-more}
use Rattle.targets.proofs.target_of.Goals as goal

pub loop-place-preserved : goal.loop-place-preserved
unfolding member_at
loop-place-preserved c =
    let more = rw c.is_load.ensures at c.plus-target.ensures in
    along-more c.loop-place.invariant c.requires.known c.requires.aggregate_in_bounds c.loop-place-test.true c.from-unit.ensures more
