-- 01's "Proved table", whole, as one statement about the definitions that the contracts cite.
use Rattle.std.specs.Prelude.{◌≡◌, false, ℕ, Some, ℤ, pos, negsuc}
use Rattle.kinds.specs.Kinds.{kind_of}
use Rattle.floats.specs.Kilowatts.{kilowatts_of}
use Rattle.telemetry.specs.Table.{BitsRows}
use Rattle.telemetry.specs.declared.Fields.{Fields}
use Rattle.telemetry.specs.declared.Quality.TheVariants.{Good}
use Rattle.triggers.specs.Triggers.{small_trigger, large_trigger}
use Rattle.marks.specs.Assessments.{unit_basis, unit_assessment}
use Rattle.marks.specs.declared.Kept.{Kept}
use Rattle.marks.specs.declared.Mark.{Mark}
use Rattle.marks.specs.declared.Mark.TheVariants.{Clear, Large}

-- "MWO .., ROC .." gives the small trigger and the large one
abbrev pub Triggers : ℕ → ℕ → ℕ → ℕ → Type 0
Triggers availability rate small large = (small_trigger availability rate ≡ small) × (large_trigger availability rate ≡ large)

-- "kept MWB 100,000 and FCR 5,000, FCL 0"
abbrev pub kept_row : Kept
kept_row = record { capped = false; target = pos 100000; raise = 5000; lower = 0 }

-- "kind .. in no chain, good line, .. both triggers 600,000, MW .." gives the mark and the error, whatever else the line holds
abbrev pub Assessed : ℕ → ℤ → Mark → ℤ → Type 0
Assessed kind power mark error =
    (f : Fields) → f.quality ≡ Good → kilowatts_of f.readings.power ≡ power
    → Triggers f.availability (unit_basis (kind_of kind) f kept_row).rate 600000 600000
    → ((unit_assessment false (record { kind = kind_of kind; line = Some f; kept = Some kept_row })).mark ≡ mark)
    × ((unit_assessment false (record { kind = kind_of kind; line = Some f; kept = Some kept_row })).error ≡ error)

-- `negsuc 5999` is -6,000
pub record Table : Type 0 where
  pub floor : Triggers 100000 3000 600000 600000
  pub by_rate : Triggers 500000 5000 1000000 2000000
  pub by_availability : Triggers 400000 10000 1200000 2000000
  pub bits : BitsRows
  pub at_trigger : Assessed 1 (pos 111000) Clear (pos 6000)
  pub past_trigger : Assessed 1 (pos 111001) Large (pos 6001)
  pub load_at_trigger : Assessed 2 (pos 89000) Clear (negsuc 5999)
  pub load_past_trigger : Assessed 2 (pos 88999) Large (negsuc 6000)
