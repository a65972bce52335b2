-- Each of i members adds at most 2,000,000 to a sum.
use Rattle.std.proofs.Common.{◌*◌}
use Rattle.aggregates.specs.Sizes.{SmallSums}
use Rattle.trials.proofs.marks_trial.sums_of.Given as goal

abbrev pub invariant-loop-i : goal.invariant-loop-i
invariant-loop-i l = SmallSums (2000000 * l.i) l.sums
