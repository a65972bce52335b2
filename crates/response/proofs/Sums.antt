-- The totals that the code holds are those of the records so far, and they fit. Assumes nothing.
use mathlib.Core.Path.{◌≡◌, refl, ◌∙◌}
use mathlib.Core.Bool.{Bool, true, false, cond, false≢true}
use mathlib.Core.List.{List}
use Prim.Native.Nat.{ℕ, ◌+◌, ◌*◌, ◌≤◌, ◌<◌}
use native.Mathlib.Nat.{le_refl}
use native.Mathlib.Numerals.{add-one}
use native.Mathlib.Omega.{arith}
use lib.Dec.{eqb}
use lib.IntN.{ℤ, pos, nat_abs, ◌+ℤ◌}
use Rattle.trace.proofs.Sums.{added_none, added_more, added-size, sum-most, counts-apart}
use Rattle.signed.proofs.Sizes.{size-plus}
use Rattle.records.specs.Intervals.{interval_at, interval_flag, response_of, is_under, is_over}
use Rattle.response.specs.Days.{is_dispatched, dispatched_at, response_sum, target_sum, target_before, flag_at, under_count, over_count}
use Rattle.records.specs.Records.{day_bounded}
use Rattle.response.specs.Totals.{SmallTotals, counted, add_dispatched, add_interval, totals_of}
use Rattle.std.specs.Prelude.{Option, Some, None}
use Rattle.records.specs.declared.Flag.{Flag}
use Rattle.records.specs.declared.Flag.TheVariants.{Under, Over}
use Rattle.records.specs.declared.Interval.{Interval}
use Rattle.response.specs.declared.totals.Totals.{Totals}
use Rattle.records.proofs.Bounds.{bounded, bounded_at}

-- ---- one interval more

-- each sum and count by its own test
abbrev each_more : Totals → ℕ → Interval → Totals
each_more t before v =
    record {
      response = cond (is_dispatched v) (t.response +ℤ response_of v) t.response;
      target = cond (is_dispatched v) (t.target + v.target) t.target;
      under = counted t.under (is_under (interval_flag before v));
      over = counted t.over (is_over (interval_flag before v));
    }

-- all by one test, as the code adds: an interval with no target has no flag
by_one : (t : Totals) (before : ℕ) (v : Interval) (none : Bool) → eqb v.target 0 ≡ none → add_interval t before v ≡ each_more t before v
unfolding add_interval add_dispatched interval_flag
by_one t before v true e = rw e
by_one t before v false e = rw e

under-not-over : (flag : Option Flag) → is_under flag ≡ true → is_over flag ≡ false
under-not-over None e = refl
under-not-over (Some Under) e = refl
under-not-over (Some Over) e = absurd (false≢true e)

pub all-zero : (response : ℤ) (target under over : ℕ) → response ≡ pos 0 → target ≡ 0 → under ≡ 0 → over ≡ 0
    → ◌≡◌ {A = Totals}
    (record { response = response; target = target; under = under; over = over })
    (record { response = pos 0; target = 0; under = 0; over = 0 })
all-zero response target under over a b c d = rw (a, b, c, d)

module _ (earlier : ℕ) (records : List ℕ) where
  pub totals-none : record { response = pos 0; target = 0; under = 0; over = 0 } ≡ totals_of earlier records 0
  unfolding totals_of
  totals-none =
      rw (
        added_none ◌+ℤ◌ (pos 0) (dispatched_at records) (λ i. response_of (interval_at records i)),
        added_none ◌+◌ 0 (dispatched_at records) (λ i. (interval_at records i).target),
        added_none ◌+◌ 0 (λ i. is_under (flag_at earlier records i)) (λ i. 1),
        added_none ◌+◌ 0 (λ i. is_over (flag_at earlier records i)) (λ i. 1),
      )

  each-more : (k : ℕ) → each_more (totals_of earlier records k) (target_before earlier records k) (interval_at records k) ≡ totals_of earlier records (k + 1)
  unfolding totals_of
  each-more k =
      rw (
        added_more ◌+ℤ◌ (pos 0) (dispatched_at records) (λ i. response_of (interval_at records i)) k (response_sum records k) refl,
        added_more ◌+◌ 0 (dispatched_at records) (λ i. (interval_at records i).target) k (target_sum records k) refl,
        added_more ◌+◌ 0 (λ i. is_under (flag_at earlier records i)) (λ i. 1) k (under_count earlier records k) refl,
        added_more ◌+◌ 0 (λ i. is_over (flag_at earlier records i)) (λ i. 1) k (over_count earlier records k) refl,
      )

  pub totals-more : (k : ℕ) (t : Totals) (before : ℕ) (v : Interval) → t ≡ totals_of earlier records k
      → before ≡ target_before earlier records k → v ≡ interval_at records k → add_interval t before v ≡ totals_of earlier records (k + 1)
  totals-more k t before v a b c = by_one t before v (eqb v.target 0) refl ∙ rw (a, b, c) (each-more k)

  pub before_more : (k : ℕ) (v : Interval) → v ≡ interval_at records k → v.target ≡ target_before earlier records (k + 1)
  before_more k v e = rw (add-one k, e)

  -- ---- how large they are

  -- no interval is counted twice
  pub counted-most : (k : ℕ) → under_count earlier records k + over_count earlier records k ≤ k
  counted-most =
      counts-apart (λ i. is_under (flag_at earlier records i)) (λ i. is_over (flag_at earlier records i))
      (λ i. under-not-over (flag_at earlier records i))

  module _ (e : day_bounded earlier records ≡ true) where
    pub response-most : (k : ℕ) → k ≤ 288 → nat_abs (response_sum records k) ≤ 400000000 * k
    response-most k h =
        added-size ◌+ℤ◌ (pos 0) (dispatched_at records) (λ i. response_of (interval_at records i)) nat_abs refl size-plus 400000000 k
        (λ i l. (bounded (interval_at records i) (bounded_at earlier records e i (omega arith))).response)

    pub target-most : (k : ℕ) → k ≤ 288 → target_sum records k ≤ 2000000 * k
    target-most k h =
        sum-most (dispatched_at records) (λ i. (interval_at records i).target) 2000000 k
        (λ i l. (bounded (interval_at records i) (bounded_at earlier records e i (omega arith))).target)

    pub totals-small : (k : ℕ) → k < 288 → SmallTotals (totals_of earlier records k)
    unfolding totals_of
    totals-small k l =
        record {
          response = omega (arith, response-most k (omega arith));
          target = omega (arith, target-most k (omega arith));
          under = omega (arith, counted-most k);
          over = omega (arith, counted-most k);
        }

    -- D of the whole day
    pub response-small : (t : Totals) → t ≡ totals_of earlier records 288 → nat_abs t.response ≤ 115200000000
    unfolding totals_of
    response-small t is = rw is (response-most 288 (le_refl 288))
