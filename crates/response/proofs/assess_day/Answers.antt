use Rattle.std.proofs.Common.{sym, ◌∙◌}
use borrow.Author.Tests.{eq-eqb, ne_eqb}
use Rattle.response.proofs.Refusals.{not-whole, beyond, assessed-day}
use Rattle.response.proofs.assess_day.Goals as goal

pub returns-in_default : goal.returns-in_default
returns-in_default c = not-whole _ _ (ne_eqb _ 3456 c.in_default.ensures.cases)

pub returns-then-not-day_bounded : goal.returns-then-not-day_bounded
returns-then-not-day_bounded c =
    let whole = c.in-Some.ensures.cases in
    beyond _ _ (eq-eqb _ 3456 whole.long) (rw whole.same at (sym c.day_bounded.ensures ∙ c.if-not-day_bounded.true))

pub returns : goal.returns
returns c =
    let whole = c.in-Some.ensures.cases in
    assessed-day _ _ (eq-eqb _ 3456 whole.long) (rw whole.same at (sym c.day_bounded.ensures ∙ c.if-not-day_bounded.false)) _
    (rw whole.same at c.assessed.ensures)
