use Rattle.trace.proofs.Sweeps.{sweep-end}
use Rattle.passes.specs.Seen.{passes_of}
use Rattle.passes.proofs.Passes.{passes-over}
use Rattle.passes.proofs.assess_aggregates.Goals as goal

pub returns-clause-by_members : goal.returns-clause-by_members
unfolding passes_of
returns-clause-by_members c =
    passes-over _ _ c.requires (sweep-end _ _ _ _ _ c.loop-aggregate.auto.aggregate-end c.loop-aggregate-test.false c.loop-aggregate.invariant)
