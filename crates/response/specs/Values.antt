-- The values of an answer (02, 2026-04: "The result holds both sums, the day flag, and the counts of under and over intervals, each equal to its
-- definition"), said a second time: over the bytes of the records and by the request's own numbers, without the definitions of the crate
-- `records` and of `Days.antt`. `proofs/Values.antt` shows that they are the same.
use Rattle.std.specs.Prelude.{◌≡◌, ◌↔◌, Bool, cond, not, ◌&&◌, List, ℕ, ◌+◌, ◌-◌, ◌*◌, ◌≤◌, ◌<◌, eqb, Some, None, Result, Ok, Err}
use Rattle.std.specs.Prelude.{ℤ, pos, neg_ℤ, nat_abs, ◌-ℤ◌, ◌*ℤ◌, ◌≤ℤ◌}
use Rattle.std.specs.Int.Signed.{le_z}
use Rattle.trace.specs.Sums.{sum_where, whole_sum_where, count_where}
use Rattle.wire.specs.Fields.{word_at, whole_at}
use Rattle.records.specs.declared.Flag.TheVariants.{Under, Over}
use Rattle.response.specs.declared.Day.{Day}
use Rattle.response.specs.declared.DayRefusal.{DayRefusal}

-- ---- an answer's values, case by case: those of the day, or zeros and no flag

abbrev pub no_values : Day
no_values = record { response = pos 0; target = 0; flag = None; under = 0; over = 0 }

unfoldable pub values_of : Result Day DayRefusal → Day
values_of (Ok day) = day
values_of (Err refusal) = no_values

-- ---- one record

-- "records of 12 bytes: target MWB (u32, kW ..), baseline quantity BSQ and metered energy ME (both i32, Wh ..)"
abbrev pub mwb_at : List ℕ → ℕ → ℕ
mwb_at records i = word_at records (12 * i)

abbrev pub bsq_at : List ℕ → ℕ → ℤ
bsq_at records i = whole_at records (12 * i + 4)

abbrev pub me_at : List ℕ → ℕ → ℤ
me_at records i = whole_at records (12 * i + 8)

abbrev pub has_target : List ℕ → ℕ → Bool
has_target records i = not (eqb (mwb_at records i) 0)

abbrev pub had_target : ℕ → List ℕ → ℕ → Bool
had_target earlier records i = cond (eqb i 0) (not (eqb earlier 0)) (has_target records (i - 1))

-- "Error in W = 1000 × MWB − 12 × (BSQ − ME)"
abbrev pub error_at : List ℕ → ℕ → ℤ
error_at records i = pos (1000 * mwb_at records i) -ℤ pos 12 *ℤ (bsq_at records i -ℤ me_at records i)

-- "An interval is left out when its own target or the one before it is 0. Flag under at 6,000,000 or more, over at −6,000,000 or less"
abbrev pub under_at : ℕ → List ℕ → ℕ → Bool
under_at earlier records i = (has_target records i && had_target earlier records i) && le_z (pos 6000000) (error_at records i)

abbrev pub over_at : ℕ → List ℕ → ℕ → Bool
over_at earlier records i = (has_target records i && had_target earlier records i) && le_z (error_at records i) (neg_ℤ (pos 6000000))

-- ---- the day

-- "over records with a nonzero target, with D the sum of BSQ − ME and T the sum of MWB: under when 24 × D ≤ 1000 × T, over when 24 × D ≥ 3000 × T.
-- T = 0 is a day without dispatch, with no flag"
pub record Values (earlier : ℕ) (records : List ℕ) (day : Day) : Type 0 where
  pub response : day.response ≡ whole_sum_where (has_target records) (λ i. bsq_at records i -ℤ me_at records i) 288
  pub target : day.target ≡ sum_where (has_target records) (mwb_at records) 288
  pub flag_under : (day.flag ≡ Some Under) ↔ ((0 < day.target) × ((pos 24 *ℤ day.response) ≤ℤ pos (1000 * day.target)))
  pub flag_over : (day.flag ≡ Some Over) ↔ ((0 < day.target) × (pos (3000 * day.target) ≤ℤ (pos 24 *ℤ day.response)))
  pub under : day.under ≡ count_where (under_at earlier records) 288
  pub over : day.over ≡ count_where (over_at earlier records) 288

-- ---- when there is one

-- "MWB (u32, kW, at most 2,000,000), .. BSQ and .. ME (both i32, Wh, within ±200,000,000). The earlier target has the same bound"
pub record WithinBounds (earlier : ℕ) (records : List ℕ) : Type 0 where
  pub target_before : earlier ≤ 2000000
  pub target : (i : ℕ) → i < 288 → mwb_at records i ≤ 2000000
  pub baseline : (i : ℕ) → i < 288 → nat_abs (bsq_at records i) ≤ 200000000
  pub metered : (i : ℕ) → i < 288 → nat_abs (me_at records i) ≤ 200000000
