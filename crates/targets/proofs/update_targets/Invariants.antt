-- The aggregates passed have their targets.
use Rattle.std.proofs.Common.{◌≡◌}
use Rattle.trace.specs.Sweeps.{sweep}
use Rattle.plants.specs.Rosters.{held}
use Rattle.targets.specs.Targets.{kept_in, target_of}
use Rattle.targets.proofs.update_targets.Given as goal

abbrev pub invariant-loop-aggregate : goal.invariant-loop-aggregate
invariant-loop-aggregate l = l.targets ≡ sweep (target_of (held l.fn.roster) (kept_in l.fn.kept)) l.aggregate l.fn.targets
