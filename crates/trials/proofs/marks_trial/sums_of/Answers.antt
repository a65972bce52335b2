use Rattle.std.proofs.Common.{arith}
use Rattle.aggregates.proofs.Small.{view-small, view-more, wider}
use Rattle.trials.proofs.marks_trial.sums_of.Goals as goal

pub plus-sums-requires : goal.plus-sums-requires
plus-sums-requires c = (wider (omega arith) c.loop-i.invariant, rw c.view_of.ensures (view-small _ c.sight_of-unit.ensures))

pub loop-i-preserved : goal.loop-i-preserved
loop-i-preserved c =
    let member = view-small _ c.sight_of-unit.ensures in
    rw (c.plus-sums.ensures, c.view_of.ensures) (wider (omega arith) (view-more _ _ c.loop-i.invariant member))
