use Rattle.std.proofs.Common.{◌≡◌, ◌∙◌, ap₂, ◌+ℤ◌, pos, to_z, of_z, w32, w64, FitsSigned, arith, rules}
use Rattle.std.proofs.lemmas.Int.{ints, to_z-of_z}
use Rattle.aggregates.specs.Views.{kept_with}
use Rattle.aggregates.specs.Aggregates.{add_signed, add_kept}
use Rattle.aggregates.proofs.KeptSums.plus.Goals as goal

pub returns : goal.returns
unfolding kept_with add_kept
returns c =
    let s = c.args.self in
    let k = c.in-Some.kept in
    let sum : FitsSigned w64 s.target = search rules in
    let one : FitsSigned w32 k.target = search rules in
    let more : FitsSigned w64 c.add_signed.result = search rules in
    let target : to_z w64 (of_z w64 c.add_signed.result) ≡ add_signed c.args.member.load s.target k.target =
    to_z-of_z w64 _ more ∙ c.add_signed.ensures ∙ ap₂ (add_signed c.args.member.load) (to_z-of_z w64 _ sum) (to_z-of_z w32 _ one) in
    let raise : to_z w64 (of_z w64 (to_z w64 (of_z w64 s.raise) +ℤ to_z w64 (of_z w64 c.from.result))) ≡ s.raise +ℤ pos k.raise =
    omega (arith, ints, c.from.ensures) in
    let lower : to_z w64 (of_z w64 (to_z w64 (of_z w64 s.lower) +ℤ to_z w64 (of_z w64 c.from-2.result))) ≡ s.lower +ℤ pos k.lower =
    omega (arith, ints, c.from-2.ensures) in
    rw (c.in-Some.is, raise, lower, target)
