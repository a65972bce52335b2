use Rattle.targets.proofs.Walks.{Along}
use Rattle.targets.proofs.target_of.Given as goal

abbrev pub invariant-loop-place : goal.invariant-loop-place
invariant-loop-place l = Along l.roster l.kept l.aggregate l.target l.place-items l.place-index
