use Rattle.std.proofs.Common.{arith}
use Rattle.calendar.specs.Dates.{is_leap}
use Rattle.calendar.proofs.Months.{through-month}
use Rattle.calendar.proofs.Month.length.Goals as goal

pub overflow_sub-result : goal.overflow_sub-result
overflow_sub-result c = let m = c.args.self in omega (arith, through-month (is_leap m.year) m.month m.in_year.0)

pub returns : goal.returns
returns c = let m = c.args.self in omega (arith, through-month (is_leap m.year) m.month m.in_year.0)
