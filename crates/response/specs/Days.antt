-- A day of 288 intervals (02, 2026-04; 002, section 3.2): both sums, the day's flag, and the counts of flagged intervals.
use Rattle.std.specs.Prelude.{Bool, cond, not, List, ℕ, zero, suc, ◌*◌, eqb, ℤ, pos, ◌*ℤ◌, Option, Some, None}
use Rattle.std.specs.Int.Signed.{le_z}
use Rattle.trace.specs.Sums.{sum_where, whole_sum_where, count_where}
use Rattle.records.specs.Intervals.{interval_at, response_of, interval_flag, is_under, is_over}
use Rattle.records.specs.Records.{intervals}
use Rattle.records.specs.declared.Interval.{Interval}
use Rattle.records.specs.declared.Flag.{Flag}
use Rattle.records.specs.declared.Flag.TheVariants.{Under, Over}
use Rattle.response.specs.declared.Day.{Day}

-- ---- "For the day, over records with a nonzero target, with D the sum of BSQ − ME and T the sum of MWB"

-- an interval "in which a WDRU was dispatched": "a nonzero target"
abbrev pub is_dispatched : Interval → Bool
is_dispatched v = not (eqb v.target 0)

abbrev pub dispatched_at : List ℕ → ℕ → Bool
dispatched_at records i = is_dispatched (interval_at records i)

-- of the first k records: D in Wh, and T in kW
abbrev pub response_sum : List ℕ → ℕ → ℤ
response_sum records k = whole_sum_where (dispatched_at records) (λ i. response_of (interval_at records i)) k

abbrev pub target_sum : List ℕ → ℕ → ℕ
target_sum records k = sum_where (dispatched_at records) (λ i. (interval_at records i).target) k

-- ---- "under when 24 × D ≤ 1000 × T, over when 24 × D ≥ 3000 × T. T = 0 is a day without dispatch, with no flag"

abbrev pub is_half_or_less : ℤ → ℕ → Bool
is_half_or_less response target = le_z (pos 24 *ℤ response) (pos (1000 * target))

abbrev pub is_three_halves_or_more : ℤ → ℕ → Bool
is_three_halves_or_more response target = le_z (pos (3000 * target)) (pos 24 *ℤ response)

unfoldable pub day_flag : ℤ → ℕ → Option Flag
day_flag response target =
    cond (eqb target 0) None
    (cond (is_half_or_less response target) (Some Under)
    (cond (is_three_halves_or_more response target) (Some Over) None))

-- ---- "the counts of under and over intervals"

-- "the one before it": of the first record, "the last target of the day before"
abbrev pub target_before : ℕ → List ℕ → ℕ → ℕ
target_before earlier records zero = earlier
target_before earlier records (suc i) = (interval_at records i).target

abbrev pub flag_at : ℕ → List ℕ → ℕ → Option Flag
flag_at earlier records i = interval_flag (target_before earlier records i) (interval_at records i)

-- of the first k records
abbrev pub under_count : ℕ → List ℕ → ℕ → ℕ
under_count earlier records k = count_where (λ i. is_under (flag_at earlier records i)) k

abbrev pub over_count : ℕ → List ℕ → ℕ → ℕ
over_count earlier records k = count_where (λ i. is_over (flag_at earlier records i)) k

-- ---- "The result holds both sums, the day flag, and the counts of under and over intervals"

unfoldable pub day_of : ℕ → List ℕ → Day
day_of earlier records =
    let response = response_sum records intervals in
    let target = target_sum records intervals in
    record {
      response = response;
      target = target;
      flag = day_flag response target;
      under = under_count earlier records intervals;
      over = over_count earlier records intervals;
    }
