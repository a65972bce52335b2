-- What was found of a date tells whether there is such a date. Assumes nothing.
use mathlib.Core.Path.{◌≡◌, refl}
use mathlib.Core.Bool.{Bool, true, false, cond}
use Prim.Native.Nat.{ℕ}
use native.Mathlib.Omega.{arith}
use Rattle.calendar.specs.Dates.{is_date}
use Rattle.calendar.specs.Ordinals.{window_of, found_of}
use Rattle.calendar.specs.declared.Date.{Date}
use Rattle.calendar.specs.declared.Window.{Window}
use Rattle.std.specs.Prelude.{Some, None}

by-test : (t : Bool) (w : Window) → cond t (Some w) None ≡ None → t ≡ false
by-test true w e = absurd (let z : ◌≡◌ {A = ℕ} 0 1 = cc in omega arith)
by-test false w e = refl

at_test : (t : Bool) (v w : Window) → cond t (Some w) None ≡ Some v → (t ≡ true) × (v ≡ w)
at_test true v w e = (refl, cc)
at_test false v w e = absurd (let z : ◌≡◌ {A = ℕ} 0 1 = cc in omega arith)

module _ (date : Date) where
  pub found_nothing : found_of date ≡ None → is_date date ≡ false
  unfolding found_of
  found_nothing = by-test (is_date date) (window_of date)

  pub found_at : (w : Window) → found_of date ≡ Some w → (is_date date ≡ true) × (w ≡ window_of date)
  unfolding found_of
  found_at w = at_test (is_date date) w (window_of date)
