use Rattle.std.proofs.Common.{rules, ◌≡◌, ℕ, Bool, true, false, refl, sym, ◌∙◌}
use borrow.Author.Tests.{tests}
use Rattle.std.proofs.lemmas.Iterator.{YieldsList-from_range, cases_from_all}
use Rattle.trace.proofs.Ranges.{every-range}
use Rattle.records.specs.Intervals.{interval_at, interval_bounded}
use Rattle.records.proofs.day_bounded.Goals as goal

pub returns-then-target_bounded : goal.returns-then-target_bounded
returns-then-target_bounded c =
    let bounded : ℕ → Bool = λ i. interval_bounded (interval_at c.args.records.now i) in
    rw (sym c.target_bounded.ensures ∙ c.if-target_bounded.true)
    (every-range bounded 288 c.all.result
    (cases_from_all _ _ _ (λ i. bounded i ≡ true) (λ i. bounded i ≡ false) c.all.ensures.ran (YieldsList-from_range 0 288 288 (cc) refl)
    (λ x q k. search (rules, tests))
    (λ x q k. search (rules, tests))))
