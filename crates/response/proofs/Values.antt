-- The values and the bounds that are said over the bytes are those of the definitions. Assumes nothing.
use mathlib.Core.Path.{◌≡◌, refl, sym}
use mathlib.Core.Logic.{◌↔◌}
use mathlib.Core.Bool.{Bool, true, false, cond, not, ◌&&◌, ◌||◌, false≢true}
use mathlib.Core.List.{List}
use Prim.Native.Nat.{ℕ, zero, suc, ◌-◌, ◌*◌, ◌≤◌, ◌<◌}
use native.Mathlib.Omega.{arith}
use borrow.Author.Tests.{leb-true, le-leb, eqb-false}
use lib.Dec.{T, eqb, eqb-suc-zero}
use lib.IntN.{ℤ, pos, negsuc, neg_ℤ, nat_abs, ◌*ℤ◌}
use lib.Signed.{le_z, ◌≤ℤ◌}
use Rattle.std.specs.Prelude.{Some, None}
use Rattle.trace.specs.Sums.{added_where, count_where}
use Rattle.trace.proofs.Sweeps.{every-all}
use Rattle.trace.proofs.Tests.{and_l, and_r, and_both}
use Rattle.records.specs.Intervals.{interval_at, target_bounded, energy_bounded, interval_bounded, error_of, error_flag, interval_flag, is_under, is_over}
use Rattle.records.specs.Records.{records_bounded, day_bounded}
use Rattle.records.specs.declared.Flag.TheVariants.{Under, Over}
use Rattle.records.proofs.Bounds.{bounded_at}
use Rattle.response.specs.Days.{is_half_or_less, is_three_halves_or_more, day_flag, target_before, flag_at, day_of}
use Rattle.response.specs.Values.{had_target, under_at, over_at, Values, WithinBounds}
use Rattle.response.proofs.Flags.{flag-under}
use Rattle.response.proofs.Days.{over-flagged}

-- ---- the day's flag

tested : (b : Bool) → T b → b ≡ true
tested true t = refl
tested false t = absurd t

at-most : (a b : ℤ) → (le_z a b ≡ true) ↔ (a ≤ℤ b)
at-most a b = (λ e. record { le = rw e tt }, λ l. tested (le_z a b) l.le)

-- what a flag says of the three tests
under-tests : (none half more : Bool) → cond none None (cond half (Some Under) (cond more (Some Over) None)) ≡ Some Under
    → (none ≡ false) × (half ≡ true)
under-tests true half more e = cc
under-tests false true more e = (refl, refl)
under-tests false false true e = cc
under-tests false false false e = cc

over-tests : (none half more : Bool) → cond none None (cond half (Some Under) (cond more (Some Over) None)) ≡ Some Over
    → (none ≡ false) × (more ≡ true)
over-tests true half more e = cc
over-tests false true more e = cc
over-tests false false true e = (refl, refl)
over-tests false false false e = cc

module _ (response : ℤ) (target : ℕ) where
  abbrev half : Bool
  half = is_half_or_less response target

  abbrev more : Bool
  more = is_three_halves_or_more response target

  positive : eqb target 0 ≡ false → 0 < target
  positive e = let n = eqb-false target 0 e in omega arith

  flagged-under : (day_flag response target ≡ Some Under) ↔ ((0 < target) × ((pos 24 *ℤ response) ≤ℤ pos (1000 * target)))
  unfolding day_flag
  flagged-under = (
    λ e. let t = under-tests (eqb target 0) half more e in (positive t.0, (at-most _ _).0 t.1),
    λ p. sym (flag-under response target (λ z. let l = p.0 in omega arith) ((at-most _ _).1 p.1)),
  )

  flagged-over : (day_flag response target ≡ Some Over) ↔ ((0 < target) × (pos (3000 * target) ≤ℤ (pos 24 *ℤ response)))
  unfolding day_flag
  flagged-over = (
    λ e. let t = over-tests (eqb target 0) half more e in (positive t.0, (at-most _ _).0 t.1),
    λ p. over-flagged response target (λ z. let l = p.0 in omega arith) ((at-most _ _).1 p.1),
  )

-- ---- the counts

count-same : (f g : ℕ → Bool) → ((i : ℕ) → f i ≡ g i) → (k : ℕ) → count_where f k ≡ count_where g k
unfolding added_where
count-same f g same zero = refl
count-same f g same (suc k) = rw (same k, count-same f g same k)

-- a record's flag, by its two targets and its error
under-by : (none before under over : Bool) → is_under (cond (none || before) None (cond under (Some Under) (cond over (Some Over) None)))
    ≡ ((not none && not before) && under)
under-by true before under over = refl
under-by false true under over = refl
under-by false false true over = refl
under-by false false false true = refl
under-by false false false false = refl

over-by : (none before under over : Bool) → (under ≡ true → over ≡ false)
    → is_over (cond (none || before) None (cond under (Some Under) (cond over (Some Over) None))) ≡ ((not none && not before) && over)
over-by true before under over apart = refl
over-by false true under over apart = refl
over-by false false true over apart = sym (apart refl)
over-by false false false true apart = refl
over-by false false false false apart = refl

-- no error is beyond both bounds
apart : (error : ℤ) → le_z (pos 6000000) error ≡ true → le_z error (neg_ℤ (pos 6000000)) ≡ false
apart (pos n) e = refl
apart (negsuc n) e = absurd (false≢true e)

module _ (earlier : ℕ) (records : List ℕ) where
  before : (i : ℕ) → not (eqb (target_before earlier records i) 0) ≡ had_target earlier records i
  unfolding interval_at
  before zero = refl
  before (suc i) = let here : suc i - 1 ≡ i = omega arith in rw (eqb-suc-zero i, here)

  under-same : (i : ℕ) → is_under (flag_at earlier records i) ≡ under_at earlier records i
  unfolding interval_flag error_flag error_of interval_at
  under-same i =
      let error = error_of (interval_at records i) in
      let under = le_z (pos 6000000) error in
      let over = le_z error (neg_ℤ (pos 6000000)) in
      rw (← before i) (under-by (eqb (interval_at records i).target 0) (eqb (target_before earlier records i) 0) under over)

  over-same : (i : ℕ) → is_over (flag_at earlier records i) ≡ over_at earlier records i
  unfolding interval_flag error_flag error_of interval_at
  over-same i =
      let error = error_of (interval_at records i) in
      let under = le_z (pos 6000000) error in
      let over = le_z error (neg_ℤ (pos 6000000)) in
      rw (← before i) (over-by (eqb (interval_at records i).target 0) (eqb (target_before earlier records i) 0) under over (apart error))

  pub day-values : Values earlier records (day_of earlier records)
  unfolding day_of interval_at
  day-values =
      record {
        response = refl;
        target = refl;
        flag_under = flagged-under _ _;
        flag_over = flagged-over _ _;
        under = count-same _ _ under-same 288;
        over = count-same _ _ over-same 288;
      }

  -- ---- the bounds

  interval-tested : (i : ℕ) → interval_bounded (interval_at records i) ≡ true
      → (interval_at records i).target ≤ 2000000
      × nat_abs (interval_at records i).baseline ≤ 200000000
      × nat_abs (interval_at records i).metered ≤ 200000000
  unfolding interval_bounded
  interval-tested i e =
      let v = interval_at records i in
      let energies = and_r (target_bounded v.target) (energy_bounded v.baseline && energy_bounded v.metered) e in (
        leb-true v.target 2000000 (and_l (target_bounded v.target) (energy_bounded v.baseline && energy_bounded v.metered) e),
        leb-true (nat_abs v.baseline) 200000000 (and_l (energy_bounded v.baseline) (energy_bounded v.metered) energies),
        leb-true (nat_abs v.metered) 200000000 (and_r (energy_bounded v.baseline) (energy_bounded v.metered) energies),
      )

  pub bounds-tested : day_bounded earlier records ≡ true → WithinBounds earlier records
  unfolding interval_at
  bounds-tested e =
      record {
        target_before = leb-true earlier 2000000 (and_l (target_bounded earlier) (records_bounded records 288) e);
        target = λ i l. (interval-tested i (bounded_at earlier records e i l)).0;
        baseline = λ i l. (interval-tested i (bounded_at earlier records e i l)).1;
        metered = λ i l. (interval-tested i (bounded_at earlier records e i l)).2;
      }

  pub bounds-pass : WithinBounds earlier records → day_bounded earlier records ≡ true
  unfolding interval_bounded interval_at
  bounds-pass b =
      and_both (target_bounded earlier) (records_bounded records 288) (le-leb earlier 2000000 b.target_before)
      (every-all (λ i. interval_bounded (interval_at records i)) 288
      (λ i l. and_both _ _ (le-leb _ 2000000 (b.target i l))
      (and_both _ _ (le-leb _ 200000000 (b.baseline i l)) (le-leb _ 200000000 (b.metered i l)))))
