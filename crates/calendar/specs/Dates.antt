-- Dates (02, 2026-05: "Dates are Gregorian, 2000 to 2099, and the days before each month are a fixed table"), the date three months
-- after one, and the order of dates.
use Rattle.std.specs.Prelude.{◌≡◌, Bool, cond, not, ◌&&◌, ◌||◌, ℕ, zero, suc, ◌+◌, ◌-◌, ◌%◌, ◌<◌, min, eqb, leb, ltb}
use Rattle.calendar.specs.declared.Date.{Date}

-- every fourth year, but of those that 100 divides only every fourth
unfoldable pub is_leap : ℕ → Bool
is_leap year = eqb (year % 4) 0 && (not (eqb (year % 100) 0) || eqb (year % 400) 0)

-- the days of a month of a leap year or of a common one: month 1 is January
unfoldable pub month_length : Bool → ℕ → ℕ
month_length leap month =
    cond (eqb month 2) (cond leap 29 28)
    (cond (eqb month 4 || (eqb month 6 || (eqb month 9 || eqb month 11))) 30 31)

-- the days of the first k months of a year, and "the days before each month"
unfoldable pub days_of_months : Bool → ℕ → ℕ
days_of_months leap zero = 0
days_of_months leap (suc k) = days_of_months leap k + month_length leap (suc k)

abbrev pub days_before : Bool → ℕ → ℕ
days_before leap month = days_of_months leap (month - 1)

-- "Gregorian, 2000 to 2099"
abbrev pub is_month : Date → Bool
is_month date = (leb 2000 date.year && leb date.year 2099) && (leb 1 date.month && leb date.month 12)

unfoldable pub is_date : Date → Bool
is_date date = is_month date && (leb 1 date.day && leb date.day (month_length (is_leap date.year) date.month))

-- "the same day number, or that month's last day if it has none"
unfoldable pub moved_to : Date → ℕ → ℕ → Date
moved_to date year month = record { year = year; month = month; day = min date.day (month_length (is_leap year) month) }

-- "Three months later"
unfoldable pub three_months_later : Date → Date
three_months_later date =
    cond (ltb date.month 10)
    (moved_to date date.year (date.month + 3))
    (moved_to date (date.year + 1) (date.month - 9))

-- ---- the order of dates: by year, then by month, then by day

pub data Earlier (a b : Date) : Type 0 where
  by_year : a.year < b.year → Earlier a b
  by_month : a.year ≡ b.year → a.month < b.month → Earlier a b
  by_day : a.year ≡ b.year → a.month ≡ b.month → a.day < b.day → Earlier a b

-- "no later than"
abbrev pub NoLater : Date → Date → Type 0
NoLater a b = ¬ Earlier b a
