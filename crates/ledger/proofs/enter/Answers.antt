use Rattle.std.proofs.Common.{rules, ◌≡◌, sym, ◌∙◌}
use Rattle.calendar.proofs.Finds.{found_nothing, found_at}
use Rattle.ledger.specs.Ledgers.{not_after}
use Rattle.ledger.proofs.Refusals.{no-date, no-later, a-later-date}
use Rattle.ledger.proofs.enter.Goals as goal

pub returns-in_default : goal.returns-in_default
returns-in_default c = no-date _ _ _ (found_nothing _ (sym c.window_of.ensures ∙ c.in_default.is))

pub returns-then-is_some_and : goal.returns-then-is_some_and
returns-then-is_some_and c =
    let found = found_at _ _ (sym c.window_of.ensures ∙ c.in-Some.is) in
    let tested : c.is_some_and.result ≡ not_after c.in-Some.window.start c.args.ledger.latest = search rules in
    no-later _ _ _ found.0 (rw found.1 at (sym tested ∙ c.if-is_some_and.true))

pub returns : goal.returns
returns c =
    let found = found_at _ _ (sym c.window_of.ensures ∙ c.in-Some.is) in
    let tested : c.is_some_and.result ≡ not_after c.in-Some.window.start c.args.ledger.latest = search rules in
    a-later-date _ _ _ found.0 (rw found.1 at (sym tested ∙ c.if-is_some_and.false)) _
    (rw (found.1, c.conduct_of.ensures) at c.entered.ensures)
