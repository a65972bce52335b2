-- The error, the trigger and the level are small enough for their types.
use Rattle.std.proofs.Common.{arith, ◌≡◌, ℤ, ◌≤◌, nat_abs, to_z, of_z, w32, w64}
use Rattle.std.proofs.lemmas.Int.{ints}
use Rattle.marks.specs.Assessments.{judged}
use Rattle.marks.proofs.Fields.{assessment-is}
use Rattle.marks.proofs.Small.{error-size}
use Rattle.marks.proofs.judge.Goals as goal

-- a small number is the same in either width
wide : (z : ℤ) → nat_abs z ≤ 390000000 → to_z w64 (of_z w64 z) ≡ z
wide z h = omega (arith, ints)

narrow : (z : ℤ) → nat_abs z ≤ 390000000 → to_z w32 (of_z w32 (to_z w64 (of_z w64 z))) ≡ z
narrow z h = omega (arith, ints)

pub returns : goal.returns
unfolding judged
returns c =
    let error = c.error_of-error.result in
    let counted = c.floored-counted.result in
    let level = c.floored-level.result in
    let error_small : nat_abs error ≤ 390000000 = omega (arith, ints, error-size _ c.requires) in
    let counted_small : nat_abs counted ≤ 390000000 = omega (arith, ints) in
    let level_small : nat_abs level ≤ 390000000 = omega (arith, ints) in
    let power_small : nat_abs c.args.b.power ≤ 390000000 = omega arith in
    assessment-is (cc (wide error error_small, wide counted counted_small)) (cc (narrow error error_small)) (cc)
    (cc (wide c.args.b.power power_small, narrow level level_small))
