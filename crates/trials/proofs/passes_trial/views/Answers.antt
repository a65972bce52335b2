use Rattle.std.proofs.Common.{rules}
use Rattle.std.specs.Prelude.{None}
use Rattle.trials.proofs.passes_trial.views.Goals as goal

pub returns : goal.returns
returns c = λ i l. let called = c.from_fn.ensures.items.at i None l in search rules
