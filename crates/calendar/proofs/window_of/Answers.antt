use Rattle.std.proofs.Common.{sym, ◌∙◌}
use Rattle.calendar.proofs.Places.{date-placed, later-placed}
use Rattle.calendar.proofs.window_of.Goals as goal

pub ordinal-requires : goal.ordinal-requires
ordinal-requires c = date-placed _ (sym c.is_date.ensures ∙ c.if-not-is_date.false)

pub ordinal-requires-2 : goal.ordinal-requires-2
ordinal-requires-2 c = rw c.three_months_later.ensures (later-placed _ (sym c.is_date.ensures ∙ c.if-not-is_date.false))
