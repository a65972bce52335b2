-- The sums are small enough, so the code's are those of the whole numbers.
use Rattle.std.proofs.Common.{arith, lt-ltb, le-ltb, ◌≡◌, refl, ◌∙◌, true, false, cond, zero, suc, ℤ, pos, negsuc, ◌+ℤ◌, ◌-ℤ◌, to_z, of_z, w64}
use Rattle.std.proofs.lemmas.Int.{ints}
use Rattle.std.specs.Int.Signed.{lt_z}
use Rattle.marks.specs.Errors.{over_of, under_of, error_of}
use Rattle.marks.specs.Bounds.{SmallBasis}
use Rattle.marks.specs.declared.Basis.{Basis}
use Rattle.marks.proofs.error_of.Goals as goal

module _ (b : Basis) where
  over-is : SmallBasis b
      → to_z w64 (of_z w64 (to_z w64 (of_z w64 b.power) -ℤ to_z w64 (of_z w64 (to_z w64 (of_z w64 b.target) +ℤ to_z w64 (of_z w64 b.up))))) ≡ over_of b
  over-is s = omega (arith, ints)

  under-is : SmallBasis b
      → to_z w64 (of_z w64 (to_z w64 (of_z w64 b.power) -ℤ to_z w64 (of_z w64 (to_z w64 (of_z w64 b.target) -ℤ to_z w64 (of_z w64 b.down))))) ≡ under_of b
  under-is s = omega (arith, ints)

  positive : lt_z (pos 0) (over_of b) ≡ true → over_of b ≡ error_of b
  unfolding error_of
  positive h = rw h

  least : (z : ℤ) → cond (lt_z (pos 0) z) (pos 0) z ≡ cond (lt_z z (pos 0)) z (pos 0)
  least (pos zero) = refl
  least (pos (suc n)) = rw (lt-ltb 0 (suc n) (omega arith), le-ltb (suc n) 0 (omega arith))
  least (negsuc n) = refl

  otherwise : lt_z (pos 0) (over_of b) ≡ false → cond (lt_z (pos 0) (under_of b)) (pos 0) (under_of b) ≡ error_of b
  unfolding error_of
  otherwise h = rw h (least (under_of b))

pub returns-then-over-gt0 : goal.returns-then-over-gt0
returns-then-over-gt0 c =
    let b = c.args.b in
    let test = rw (over-is b c.requires) at c.if-over-gt0.true in
    over-is b c.requires ∙ positive b test

pub returns-else-over-gt0 : goal.returns-else-over-gt0
returns-else-over-gt0 c =
    let b = c.args.b in
    let test = rw (over-is b c.requires) at c.if-over-gt0.false in
    let value = rw (under-is b c.requires) at c.min.ensures.value in
    let same : to_z w64 (of_z w64 c.min.result) ≡ c.min.result = omega (arith, ints) in
    same ∙ value ∙ otherwise b test
