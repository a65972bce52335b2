-- The first refusal by its name is the first by its number. Assumes nothing.
use mathlib.Core.Path.{◌≡◌, refl}
use mathlib.Core.Bool.{Bool, true, false, cond}
use mathlib.Core.List.{List, [], ◌∷◌}
use Prim.Native.Nat.{ℕ}
use Rattle.std.specs.Prelude.{Option, Some}
use Rattle.trace.specs.Refusals.{Refusal, first_refusal, first_of, answered_by, result_number}

module _ {R A : Type 0} (number : R → ℕ) (a : A) where
  -- a list by its numbers
  abbrev pub numbered : List (R × Bool) → List Refusal
  numbered [] = []
  numbered ((refusal, applies) ∷ rest) = (number refusal, applies) ∷ numbered rest

  pub answered-number : (list : List (R × Bool)) → result_number number (answered_by (first_of list) a) ≡ first_refusal (numbered list)
  unfolding first_of first_refusal
  answered-number [] = refl
  answered-number ((refusal, applies) ∷ rest) = go applies (first_of rest) (answered-number rest)
    where
      go : (applies : Bool) (first : Option R) → result_number number (answered_by first a) ≡ first_refusal (numbered rest)
          → result_number number (answered_by (cond applies (Some refusal) first) a) ≡ cond applies (number refusal) (first_refusal (numbered rest))
      go true first e = refl
      go false first e = e
