-- Where a date stands, and the date three months later. Assumes nothing.
use mathlib.Core.Path.{◌≡◌, refl}
use mathlib.Core.Bool.{Bool, true, false, cond, ◌&&◌}
use Prim.Native.Nat.{ℕ, ◌+◌, ◌-◌, ◌≤◌}
use native.Mathlib.Nat.{min-le_right}
use native.Mathlib.Omega.{arith}
use borrow.Author.Tests.{leb-true, ltb-true, ltb-false}
use lib.Dec.{leb, ltb}
use Rattle.trace.proofs.Tests.{and_l, and_r}
use Rattle.calendar.specs.Dates.{is_leap, month_length, is_month, is_date, moved_to, three_months_later}
use Rattle.calendar.specs.Ordinals.{Placed}
use Rattle.calendar.specs.declared.Date.{Date}
use Rattle.calendar.proofs.Months.{length-within}

-- the parts of a test of two bounds
within : (a b n : ℕ) → (leb a n && leb n b) ≡ true → (a ≤ n) × (n ≤ b)
within a b n e = (leb-true a n (and_l (leb a n) (leb n b) e), leb-true n b (and_r (leb a n) (leb n b) e))

module _ (date : Date) (e : is_month date ≡ true) where
  pub year-within : (2000 ≤ date.year) × (date.year ≤ 2099)
  year-within = within 2000 2099 date.year (and_l _ (leb 1 date.month && leb date.month 12) e)

  pub month-within : (1 ≤ date.month) × (date.month ≤ 12)
  month-within = within 1 12 date.month (and_r (leb 2000 date.year && leb date.year 2099) _ e)

module _ (date : Date) (e : is_date date ≡ true) where
  abbrev last : ℕ
  last = month_length (is_leap date.year) date.month

  is-month : is_month date ≡ true
  unfolding is_date
  is-month = and_l (is_month date) (leb 1 date.day && leb date.day last) e

  pub day-within : (1 ≤ date.day) × (date.day ≤ last)
  unfolding is_date
  day-within = within 1 last date.day (and_r (is_month date) (leb 1 date.day && leb date.day last) e)

  pub date-placed : Placed date
  date-placed =
      let y = year-within date is-month in
      let m = month-within date is-month in
      record {
        year_least = y.0;
        year_most = omega arith;
        month_least = m.0;
        month_most = m.1;
        day_most = omega (arith, day-within, length-within (is_leap date.year) date.month);
      }

moved-placed : (date : Date) (year month : ℕ) → 2000 ≤ year → year ≤ 2100 → 1 ≤ month → month ≤ 12 → Placed (moved_to date year month)
unfolding moved_to
moved-placed date year month a b c d =
    record {
      year_least = a;
      year_most = b;
      month_least = c;
      month_most = d;
      day_most = omega (arith, min-le_right date.day (month_length (is_leap year) month), length-within (is_leap year) month);
    }

pub later-placed : (date : Date) → is_date date ≡ true → Placed (three_months_later date)
unfolding three_months_later
later-placed date e = go (ltb date.month 10) refl
  where
    p : Placed date
    p = date-placed date e

    y : (2000 ≤ date.year) × (date.year ≤ 2099)
    y = year-within date (is-month date e)

    go : (t : Bool) → ltb date.month 10 ≡ t
        → Placed (cond t (moved_to date date.year (date.month + 3)) (moved_to date (date.year + 1) (date.month - 9)))
    go true h = let l = ltb-true date.month 10 h in moved-placed date _ _ y.0 p.year_most (omega arith) (omega arith)
    go false h =
        let l = ltb-false date.month 10 h in
        moved-placed date _ _ (omega (arith, y)) (omega (arith, y)) (omega arith) (omega (arith, p.month_most))
