use Rattle.std.proofs.Common.{arith}
use Rattle.calendar.proofs.Places.{date-placed}
use Rattle.calendar.proofs.Date.three_months_later.Goals as goal

pub overflow_add-self-else-self-lt10 : goal.overflow_add-self-else-self-lt10
overflow_add-self-else-self-lt10 c = record { fits = omega (arith, date-placed _ c.requires) }

pub invariant_of-moved_to-else-self-lt10 : goal.invariant_of-moved_to-else-self-lt10
invariant_of-moved_to-else-self-lt10 c = let placed = date-placed _ c.requires in record { in_year = (omega arith, omega arith) }
