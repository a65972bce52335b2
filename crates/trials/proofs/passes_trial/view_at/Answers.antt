use Rattle.aggregates.proofs.Small.{view-small}
use Rattle.trials.proofs.passes_trial.view_at.Goals as goal

pub returns : goal.returns
returns c = rw c.view_of.ensures (view-small _ c.sight_of.ensures.small)
