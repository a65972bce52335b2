-- Ordinals are in the order of dates: by year, then by month, then by day. Assumes nothing.
use mathlib.Core.Path.{◌≡◌, sym}
use mathlib.Core.Logic.{◌↔◌, ◌⊎◌, inl, inr, ⊎_elim}
use mathlib.Core.Bool.{Bool, true}
use Prim.Native.Nat.{ℕ, zero, suc, ◌+◌, ◌-◌, ◌≤◌, ◌<◌}
use native.Mathlib.Nat.{le_refl, le_trans, eq-or-lt_of_le, le_of_suc-le-suc, le-min, min-le_right}
use native.Mathlib.Omega.{arith}
use lib.Dec.{ltb}
use Rattle.trace.proofs.Sweeps.{below_or_not}
use Rattle.trace.proofs.Tests.{chosen}
use Rattle.calendar.specs.Dates.{is_leap, month_length, days_of_months, days_before, is_date, moved_to, three_months_later}
use Rattle.calendar.specs.Dates.{Earlier, by_year, by_month, by_day, NoLater}
use Rattle.calendar.specs.Ordinals.{days_of_years, ordinal_of, Placed}
use Rattle.calendar.specs.declared.Date.{Date}
use Rattle.calendar.proofs.Months.{through-month, length-within}
use Rattle.calendar.proofs.Places.{day-within, date-placed, later-placed}

-- a date of 2000 to 2100: one that there is, or three months after one
abbrev InMonth : Date → Type 0
InMonth date = (1 ≤ date.day) × (date.day ≤ month_length (is_leap date.year) date.month)

pub record Dated (date : Date) : Type 0 where
  pub placed : Placed date
  pub within : InMonth date

-- ---- sums that rise

rises : (f : ℕ → ℕ) → ((k : ℕ) → f k ≤ f (suc k)) → (i j : ℕ) → i ≤ j → f i ≤ f j
rises f up i zero h = let e : i ≡ 0 = omega arith in rw e (le_refl (f 0))
rises f up i (suc j) h =
    ⊎_elim (λ e. rw e (le_refl (f (suc j)))) (λ l. le_trans (rises f up i j (le_of_suc-le-suc l)) (up j)) (eq-or-lt_of_le h)

months-rise : (leap : Bool) (i j : ℕ) → i ≤ j → days_of_months leap i ≤ days_of_months leap j
unfolding days_of_months
months-rise leap = rises (days_of_months leap) λ k. omega arith

years-rise : (i j : ℕ) → i ≤ j → days_of_years i ≤ days_of_years j
unfolding days_of_years
years-rise = rises days_of_years λ k. omega arith

-- ---- where a date stands in its year

abbrev in_year : Date → ℕ
in_year date = days_before (is_leap date.year) date.month + date.day

module _ (date : Date) (d : Dated date) where
  abbrev leap : Bool
  leap = is_leap date.year

  -- no later than its month's last day
  month-end : in_year date ≤ days_of_months leap date.month
  month-end =
      omega (arith, through-month leap date.month d.placed.month_least, d.within.1)

  -- no later than its year's
  year-end : ordinal_of date ≤ days_of_years (suc (date.year - 2000))
  unfolding ordinal_of days_of_years
  year-end =
      let same : 2000 + (date.year - 2000) ≡ date.year = omega (arith, d.placed.year_least) in
      let most = months-rise leap date.month 12 d.placed.month_most in
      rw same (omega (arith, most, month-end))

-- ---- the order

module _ (a b : Date) (p : Dated a) (q : Dated b) where
  pub earlier-less : Earlier a b → ordinal_of a < ordinal_of b
  unfolding ordinal_of
  earlier-less (by_year y) =
      let most : days_of_years (suc (a.year - 2000)) ≤ days_of_years (b.year - 2000) = years-rise _ _ (omega (arith, p.placed.year_least)) in
      omega (arith, year-end a p, most, q.within.0)
  earlier-less (by_month y m) =
      let most : days_of_months (is_leap a.year) a.month ≤ days_before (is_leap b.year) b.month =
      rw y (months-rise (is_leap b.year) a.month (b.month - 1) (omega arith)) in
      rw y (omega (arith, rw y at (month-end a p), rw y at most, q.within.0))
  earlier-less (by_day y m d) = rw (y, m) (omega arith)

three_ways : (m n : ℕ) → (m < n) ⊎ ((m ≡ n) ⊎ (n < m))
three_ways m n = ⊎_elim inl (λ l. ⊎_elim (λ e. inr (inl (sym e))) (λ h. inr (inr h)) (eq-or-lt_of_le l)) (below_or_not m n)

module _ (a b : Date) (p : Dated a) (q : Dated b) where
  pub less-earlier : ordinal_of a < ordinal_of b → Earlier a b
  unfolding ordinal_of
  less-earlier l = by-year (three_ways a.year b.year)
    where
      not-later : Earlier b a → ⊥
      not-later e = let h = earlier-less b a q p e in omega arith

      same : a.year ≡ b.year → a.month ≡ b.month → a.day ≡ b.day → ordinal_of a ≡ ordinal_of b
      same y m d = rw (y, m, d)

      by-day : a.year ≡ b.year → a.month ≡ b.month → (a.day < b.day) ⊎ ((a.day ≡ b.day) ⊎ (b.day < a.day)) → Earlier a b
      by-day y m (inl h) = by_day y m h
      by-day y m (inr (inl d)) = absurd (let e = same y m d in omega arith)
      by-day y m (inr (inr h)) = absurd (not-later (by_day (sym y) (sym m) h))

      by-month : a.year ≡ b.year → (a.month < b.month) ⊎ ((a.month ≡ b.month) ⊎ (b.month < a.month)) → Earlier a b
      by-month y (inl h) = by_month y h
      by-month y (inr (inl m)) = by-day y m (three_ways a.day b.day)
      by-month y (inr (inr h)) = absurd (not-later (by_month (sym y) h))

      by-year : (a.year < b.year) ⊎ ((a.year ≡ b.year) ⊎ (b.year < a.year)) → Earlier a b
      by-year (inl h) = by_year h
      by-year (inr (inl y)) = by-month y (three_ways a.month b.month)
      by-year (inr (inr h)) = absurd (not-later (by_year h))

module _ (a b : Date) (p : Dated a) (q : Dated b) where
  -- so of two dates one is no later than the other where its ordinal is no greater
  pub no-later : (ordinal_of a ≤ ordinal_of b) ↔ NoLater a b
  no-later = (λ l e. let h = earlier-less b a q p e in omega arith, λ n. at_most (below_or_not (ordinal_of b) (ordinal_of a)) n)
    where
      at_most : (ordinal_of b < ordinal_of a) ⊎ (ordinal_of a ≤ ordinal_of b) → NoLater a b → ordinal_of a ≤ ordinal_of b
      at_most (inl l) n = absurd (n (less-earlier b a q p l))
      at_most (inr l) n = l

-- ---- of which dates that holds

pub date-dated : (date : Date) → is_date date ≡ true → Dated date
date-dated date e = record { placed = date-placed date e; within = day-within date e }

moved-within : (date : Date) (year month : ℕ) → 1 ≤ date.day → InMonth (moved_to date year month)
unfolding moved_to
moved-within date year month l =
    let last = month_length (is_leap year) month in
    (le-min l (omega (arith, length-within (is_leap year) month)), min-le_right date.day last)

pub later-dated : (date : Date) → is_date date ≡ true → Dated (three_months_later date)
unfolding three_months_later
later-dated date e =
    let l = (day-within date e).0 in
    record {
      placed = later-placed date e;
      within = chosen InMonth (ltb date.month 10) _ _ (moved-within date _ _ l) (moved-within date _ _ l);
    }

-- "no later than three calendar months after", also where that is after the end of 2099
pub within-three-months : (a b : Date) → is_date a ≡ true → is_date b ≡ true
    → (ordinal_of a ≤ ordinal_of (three_months_later b)) ↔ NoLater a (three_months_later b)
within-three-months a b d e = no-later a (three_months_later b) (date-dated a d) (later-dated b e)
