-- One record of a day, which is one trading interval (02, 2026-04; 002, section 3.1): its values, their bounds, its error and its flag.
use Rattle.std.specs.Prelude.{Bool, true, false, cond, ◌&&◌, ◌||◌, List, ℕ, ◌+◌, ◌*◌, eqb, leb, ℤ, pos, neg_ℤ, nat_abs, ◌-ℤ◌, ◌*ℤ◌, Option, Some, None}
use Rattle.std.specs.Int.Signed.{le_z}
use Rattle.wire.specs.Fields.{word_at, whole_at}
use Rattle.records.specs.declared.Flag.{Flag}
use Rattle.records.specs.declared.Flag.TheVariants.{Under, Over}
use Rattle.records.specs.declared.Interval.{Interval}

-- "records of 12 bytes: target MWB (u32, kW ..), baseline quantity BSQ and metered energy ME (both i32, Wh ..)"; the first is number 0
unfoldable pub interval_at : List ℕ → ℕ → Interval
interval_at records i =
    record {
      target = word_at records (12 * i);
      baseline = whole_at records (12 * i + 4);
      metered = whole_at records (12 * i + 8);
    }

-- ---- bounds

-- "at most 2,000,000"; "The earlier target has the same bound"
abbrev pub target_bounded : ℕ → Bool
target_bounded target = leb target 2000000

-- "within ±200,000,000"
abbrev pub energy_bounded : ℤ → Bool
energy_bounded energy = leb (nat_abs energy) 200000000

unfoldable pub interval_bounded : Interval → Bool
interval_bounded v = target_bounded v.target && (energy_bounded v.baseline && energy_bounded v.metered)

-- ---- error and flag

-- BSQ − ME, the response that was delivered, in Wh
abbrev pub response_of : Interval → ℤ
response_of v = v.baseline -ℤ v.metered

-- "Error in W = 1000 × MWB − 12 × (BSQ − ME)"
unfoldable pub error_of : Interval → ℤ
error_of v = pos (1000 * v.target) -ℤ pos 12 *ℤ response_of v

-- "Flag under at 6,000,000 or more, over at −6,000,000 or less"
unfoldable pub error_flag : ℤ → Option Flag
error_flag error = cond (le_z (pos 6000000) error) (Some Under) (cond (le_z error (neg_ℤ (pos 6000000))) (Some Over) None)

-- "An interval is left out when its own target or the one before it is 0"
abbrev pub is_left_out : ℕ → Interval → Bool
is_left_out before v = eqb v.target 0 || eqb before 0

unfoldable pub interval_flag : ℕ → Interval → Option Flag
interval_flag before v = cond (is_left_out before v) None (error_flag (error_of v))

-- ---- what is counted

abbrev pub is_under : Option Flag → Bool
is_under None = false
is_under (Some Under) = true
is_under (Some Over) = false

abbrev pub is_over : Option Flag → Bool
is_over None = false
is_over (Some Under) = false
is_over (Some Over) = true
