-- The aggregates passed have their passes.
use Rattle.std.proofs.Common.{◌≡◌, replicate}
use Rattle.trace.specs.Sweeps.{sweep}
use Rattle.passes.specs.Seen.{no_pass, pass_at}
use Rattle.passes.proofs.assess_aggregates.Given as goal

abbrev pub invariant-loop-aggregate : goal.invariant-loop-aggregate
invariant-loop-aggregate l = l.passes ≡ sweep (pass_at l.roster l.seen) l.aggregate (replicate 16 no_pass)
