-- The date three months later, said a second time: by a count of months, and by the day numbers of both dates. Assumes nothing.
use mathlib.Core.Path.{◌≡◌, refl}
use mathlib.Core.Bool.{Bool, true, false, cond}
use Prim.Native.Nat.{ℕ, ◌+◌, ◌-◌, ◌*◌, ◌≤◌, ◌<◌, min}
use native.Mathlib.Omega.{arith}
use borrow.Author.Tests.{ltb-false}
use lib.Dec.{ltb}
use Rattle.trace.proofs.Tests.{chosen}
use Rattle.calendar.specs.Dates.{is_leap, month_length, is_date, moved_to, three_months_later}
use Rattle.calendar.specs.declared.Date.{Date}
use Rattle.calendar.proofs.Places.{later-placed}

abbrev last_of : Date → ℕ
last_of date = month_length (is_leap date.year) date.month

-- months are counted from the start of year 0, month 1 as 1
abbrev months_of : Date → ℕ
months_of date = 12 * date.year + date.month

module _ (date : Date) where
  -- "Three months later", and month 1 to 12 of its year
  pub months-later : months_of (three_months_later date) ≡ months_of date + 3
  unfolding three_months_later moved_to
  months-later = go (ltb date.month 10) refl
    where
      go : (t : Bool) → ltb date.month 10 ≡ t
          → months_of (cond t (moved_to date date.year (date.month + 3)) (moved_to date (date.year + 1) (date.month - 9))) ≡ months_of date + 3
      go true h = omega arith
      go false h = omega (arith, ltb-false date.month 10 h)

  pub month-later : is_date date ≡ true → (1 ≤ (three_months_later date).month) × ((three_months_later date).month ≤ 12)
  month-later e = let placed = later-placed date e in (placed.month_least, placed.month_most)

  day-later : (three_months_later date).day ≡ min date.day (last_of (three_months_later date))
  unfolding three_months_later moved_to
  day-later = chosen (λ later. later.day ≡ min date.day (last_of later)) (ltb date.month 10) _ _ refl refl

  -- "means the same day number, or that month's last day if it has none"
  pub same-day : date.day ≤ last_of (three_months_later date) → (three_months_later date).day ≡ date.day
  same-day l = omega (arith, day-later)

  pub last-day : last_of (three_months_later date) < date.day → (three_months_later date).day ≡ last_of (three_months_later date)
  last-day l = omega (arith, day-later)
