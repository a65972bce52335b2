use Rattle.std.proofs.Common.{ap, ◌∙◌}
use Rattle.std.specs.Int.{from_bool}
use Rattle.calendar.proofs.Months.{table-entry}
use Rattle.calendar.proofs.days_of_months.Goals as goal

pub returns-clause-value : goal.returns-clause-value
returns-clause-value c = table-entry _ _ _ (c.from.ensures ∙ ap from_bool c.is_leap.ensures) c.requires
