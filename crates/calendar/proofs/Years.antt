-- The days of the years from 2000 on, every fourth of them a leap year up to 2100, by one test over all of them. Assumes nothing.
use mathlib.Core.Path.{◌≡◌, refl}
use mathlib.Core.Bool.{Bool, true, false, ◌&&◌}
use Prim.Native.Nat.{ℕ, ◌+◌, ◌*◌, ◌≤◌}
use native.Mathlib.Omega.{arith}
use borrow.Author.Tests.{eqb-true}
use lib.Dec.{eqb, leb}
use Rattle.std.specs.Int.{div_ceil}
use Rattle.trace.specs.Sweeps.{every}
use Rattle.trace.proofs.Sweeps.{every-at}
use Rattle.trace.proofs.Tests.{and_l}
use Rattle.calendar.specs.Dates.{is_leap, month_length, days_of_months}
use Rattle.calendar.specs.Ordinals.{days_of_years}

abbrev pub quick : ℕ → ℕ
quick years = 365 * years + div_ceil years 4

abbrev right : ℕ → Bool
right years = eqb (quick years) (days_of_years years) && leb (quick years) 36525

all_right : every right 101 ≡ true
unfolding every days_of_years is_leap days_of_months month_length
all_right = refl

module _ (years : ℕ) (l : years ≤ 100) where
  holds : right years ≡ true
  holds = every-at right 101 all_right years (omega arith)

  pub years-value : quick years ≡ days_of_years years
  years-value = eqb-true (quick years) (days_of_years years) (and_l (eqb (quick years) (days_of_years years)) (leb (quick years) 36525) holds)

-- 2100, in which a date three months after one of 2099 may lie, is a common year
pub common-2100 : is_leap 2100 ≡ false
unfolding is_leap
common-2100 = refl
