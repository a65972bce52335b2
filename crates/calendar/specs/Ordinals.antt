-- The ordinal of a date: the number of its day from the start of 2000 on, 1 for 1 January 2000. Ledgers hold and compare ordinals:
-- `proofs/Order.antt` shows that they are in the order of year, month and day, `Earlier`.
use Rattle.std.specs.Prelude.{cond, ℕ, zero, suc, ◌+◌, ◌-◌, ◌≤◌, Option, Some, None}
use Rattle.calendar.specs.Dates.{is_leap, days_of_months, days_before, is_date, three_months_later}
use Rattle.calendar.specs.declared.Date.{Date}
use Rattle.calendar.specs.declared.Window.{Window}

-- the days of a year, and of the first k years from 2000 on
abbrev pub year_length : ℕ → ℕ
year_length year = days_of_months (is_leap year) 12

unfoldable pub days_of_years : ℕ → ℕ
days_of_years zero = 0
days_of_years (suc k) = days_of_years k + year_length (2000 + k)

unfoldable pub ordinal_of : Date → ℕ
ordinal_of date = days_of_years (date.year - 2000) + (days_before (is_leap date.year) date.month + date.day)

-- those of a date and of the date three months later
unfoldable pub window_of : Date → Window
window_of date = record { start = ordinal_of date; end = ordinal_of (three_months_later date) }

-- what any three numbers are answered
unfoldable pub found_of : Date → Option Window
found_of date = cond (is_date date) (Some (window_of date)) None

-- Numbers of which the code works out an ordinal: those of a date, also of one three months after the end of 2099.
pub record Placed (date : Date) : Type 0 where
  pub year_least : 2000 ≤ date.year
  pub year_most : date.year ≤ 2100
  pub month_least : 1 ≤ date.month
  pub month_most : date.month ≤ 12
  pub day_most : date.day ≤ 31
