-- The records of a day (02, 2026-04): how many, and the bounds of their values.
use Rattle.std.specs.Prelude.{Bool, ◌&&◌, List, ℕ, ◌*◌, eqb, length}
use Rattle.trace.specs.Sweeps.{every}
use Rattle.records.specs.Intervals.{interval_at, target_bounded, interval_bounded}

-- "288 records"
abbrev pub intervals : ℕ
intervals = 288

-- 31: "288 records of 12 bytes"
abbrev pub is_whole : List ℕ → Bool
is_whole records = eqb (length records) (12 * intervals)

-- 32: every value of the first k records, and the earlier target
abbrev pub records_bounded : List ℕ → ℕ → Bool
records_bounded records k = every (λ i. interval_bounded (interval_at records i)) k

abbrev pub day_bounded : ℕ → List ℕ → Bool
day_bounded earlier records = target_bounded earlier && records_bounded records intervals
