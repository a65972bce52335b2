-- What follows from the definition of a day. Assumes nothing.
use mathlib.Core.Path.{◌≡◌, refl, sym, ◌∙◌}
use mathlib.Core.Bool.{Bool, true, false, false≢true}
use mathlib.Core.List.{List}
use Prim.Native.Nat.{ℕ, ◌+◌, ◌*◌, ◌≤◌, ◌<◌}
use native.Mathlib.Nat.{le_refl}
use native.Mathlib.Omega.{arith}
use borrow.Author.Tests.{leb-true, le-leb, eq-eqb}
use lib.Dec.{eqb}
use lib.IntN.{ℤ, pos, negsuc, nat_abs, ◌+ℤ◌, ◌*ℤ◌}
use lib.Signed.{le_z}
use Rattle.std.specs.Prelude.{Some, None}
use Rattle.trace.proofs.Sums.{added-nothing, sum-zero}
use Rattle.records.specs.Intervals.{interval_at, response_of, interval_flag, is_under, is_over}
use Rattle.response.specs.Days.{dispatched_at, target_sum, flag_at, is_half_or_less, is_three_halves_or_more, day_flag, day_of}
use Rattle.records.specs.Records.{day_bounded}
use Rattle.records.specs.declared.Flag.TheVariants.{Under, Over}
use Rattle.response.proofs.Flags.{flag-undispatched, flag-under, flag-over}
use Rattle.response.proofs.Sums.{counted-most, response-most, target-most}

-- ---- "Exactly 50 % and exactly 150 % are flagged", and a day is not under and over

-- a number between two others
between : (z : ℤ) (low high : ℕ) → le_z (pos low) z ≡ true → le_z z (pos high) ≡ true → low ≤ high
between (pos n) low high a b = omega (arith, leb-true low n a, leb-true n high b)
between (negsuc n) low high a b = absurd (false≢true a)

at-most-itself : (n : ℕ) → le_z (pos n) (pos n) ≡ true
at-most-itself n = le-leb n n (le_refl n)

module _ (response : ℤ) (target : ℕ) (dispatched : target ≡ 0 → ⊥) where
  -- so the order of the two tests plays no part
  pub not-both : is_half_or_less response target ≡ true → is_three_halves_or_more response target ≡ true → ⊥
  not-both under over =
      let h : 3000 * target ≤ 1000 * target = between (pos 24 *ℤ response) (3000 * target) (1000 * target) over under in
      dispatched (omega arith)

  pub over-flagged : is_three_halves_or_more response target ≡ true → day_flag response target ≡ Some Over
  over-flagged over = go (is_half_or_less response target) refl
    where
      go : (t : Bool) → is_half_or_less response target ≡ t → day_flag response target ≡ Some Over
      go true under = absurd (not-both under over)
      go false more = sym (flag-over response target dispatched more over)

  pub half-flagged : pos 24 *ℤ response ≡ pos (1000 * target) → day_flag response target ≡ Some Under
  half-flagged e = sym (flag-under response target dispatched (rw e (at-most-itself (1000 * target))))

  pub three-halves-flagged : pos 24 *ℤ response ≡ pos (3000 * target) → day_flag response target ≡ Some Over
  three-halves-flagged e = over-flagged (rw e (at-most-itself (3000 * target)))

-- ---- the counts

module _ (earlier : ℕ) (records : List ℕ) where
  pub counts-most : (day_of earlier records).under + (day_of earlier records).over ≤ 288
  unfolding day_of
  counts-most = counted-most earlier records 288

  -- ---- "T = 0 is a day without dispatch, with no flag"

  -- no interval has a target
  undispatched : target_sum records 288 ≡ 0 → (i : ℕ) → i < 288 → eqb (interval_at records i).target 0 ≡ true
  undispatched e i l = go (eqb (interval_at records i).target 0) refl
    where
      go : (t : Bool) → eqb (interval_at records i).target 0 ≡ t → t ≡ true
      go true h = refl
      go false h =
          let z = sum-zero (dispatched_at records) (λ j. (interval_at records j).target) 288 e i l (rw h refl) in
          sym h ∙ eq-eqb (interval_at records i).target 0 z

  left_out : (i : ℕ) → eqb (interval_at records i).target 0 ≡ true → flag_at earlier records i ≡ None
  unfolding interval_flag
  left_out i e = rw e

  pub without-dispatch : (day_of earlier records).target ≡ 0
      → day_of earlier records ≡ record { response = pos 0; target = 0; flag = None; under = 0; over = 0 }
  unfolding day_of
  without-dispatch e =
      let none = undispatched e in
      rw (
        e,
        added-nothing ◌+ℤ◌ (pos 0) (dispatched_at records) (λ i. response_of (interval_at records i)) 288 (λ i l. rw (none i l)),
        added-nothing ◌+◌ 0 (λ i. is_under (flag_at earlier records i)) (λ i. 1) 288 (λ i l. rw (left_out i (none i l))),
        added-nothing ◌+◌ 0 (λ i. is_over (flag_at earlier records i)) (λ i. 1) 288 (λ i l. rw (left_out i (none i l))),
        ← flag-undispatched (pos 0) 0 refl,
      )

  -- ---- how large the sums are

  module _ (e : day_bounded earlier records ≡ true) where
    pub day-response-most : nat_abs (day_of earlier records).response ≤ 115200000000
    unfolding day_of
    day-response-most = response-most earlier records e 288 (le_refl 288)

    pub day-target-most : (day_of earlier records).target ≤ 576000000
    unfolding day_of
    day-target-most = target-most earlier records e 288 (le_refl 288)
