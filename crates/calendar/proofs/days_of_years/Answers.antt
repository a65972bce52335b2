use Rattle.calendar.proofs.Years.{years-value}
use Rattle.calendar.proofs.days_of_years.Goals as goal

pub returns-clause-value : goal.returns-clause-value
returns-clause-value c = rw c.div_ceil.ensures (years-value c.args.years c.requires)
