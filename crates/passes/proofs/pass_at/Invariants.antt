use Rattle.passes.proofs.Passes.{Along}
use Rattle.passes.proofs.pass_at.Given as goal

abbrev pub invariant-loop-place : goal.invariant-loop-place
invariant-loop-place l = Along l.roster l.seen l.aggregate l.sums l.place-items l.place-index l.looked
