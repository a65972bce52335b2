-- The flags of an interval, test by test. Assumes nothing.
use mathlib.Core.Path.{◌≡◌}
use mathlib.Core.Bool.{true, false}
use Prim.Native.Nat.{ℕ}
use lib.IntN.{ℤ, pos, neg_ℤ}
use Rattle.std.specs.Prelude.{Option, Some, None}
use lib.Signed.{le_z}
use Rattle.records.specs.Intervals.{is_left_out, error_of, error_flag, interval_flag}
use Rattle.records.specs.declared.Flag.{Flag}
use Rattle.records.specs.declared.Flag.TheVariants.{Under, Over}
use Rattle.records.specs.declared.Interval.{Interval}

module _ (error : ℤ) where
  pub error-under : le_z (pos 6000000) error ≡ true → Some Under ≡ error_flag error
  unfolding error_flag
  error-under e = rw e

  module _ (less : le_z (pos 6000000) error ≡ false) where
    pub error-over : le_z error (neg_ℤ (pos 6000000)) ≡ true → Some Over ≡ error_flag error
    unfolding error_flag
    error-over e = rw (less, e)

    pub error-none : le_z error (neg_ℤ (pos 6000000)) ≡ false → None ≡ error_flag error
    unfolding error_flag
    error-none e = rw (less, e)

module _ (before : ℕ) (v : Interval) where
  pub flag-left-out : is_left_out before v ≡ true → None ≡ interval_flag before v
  unfolding interval_flag
  flag-left-out e = rw e

  pub flag-counted : is_left_out before v ≡ false → (flag : Option Flag) → flag ≡ error_flag (error_of v) → flag ≡ interval_flag before v
  unfolding interval_flag
  flag-counted e flag is = rw e is
