-- The flags of a day, test by test. Assumes nothing.
use mathlib.Core.Path.{◌≡◌}
use mathlib.Core.Bool.{true, false}
use Prim.Native.Nat.{ℕ}
use borrow.Author.Tests.{eq-eqb, ne_eqb}
use lib.IntN.{ℤ}
use Rattle.std.specs.Prelude.{Some, None}
use Rattle.response.specs.Days.{is_half_or_less, is_three_halves_or_more, day_flag}
use Rattle.records.specs.declared.Flag.TheVariants.{Under, Over}

module _ (response : ℤ) (target : ℕ) where
  pub flag-undispatched : target ≡ 0 → None ≡ day_flag response target
  unfolding day_flag
  flag-undispatched e = rw (eq-eqb target 0 e)

  module _ (dispatched : target ≡ 0 → ⊥) where
    pub flag-under : is_half_or_less response target ≡ true → Some Under ≡ day_flag response target
    unfolding day_flag
    flag-under e = rw (ne_eqb target 0 dispatched, e)

    module _ (more : is_half_or_less response target ≡ false) where
      pub flag-over : is_three_halves_or_more response target ≡ true → Some Over ≡ day_flag response target
      unfolding day_flag
      flag-over e = rw (ne_eqb target 0 dispatched, more, e)
