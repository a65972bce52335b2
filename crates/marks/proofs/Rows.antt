-- The table holds. Assumes nothing.
use mathlib.Core.Path.{◌≡◌, refl}
use mathlib.Core.Bool.{false}
use Prim.Native.Nat.{ℕ}
use lib.IntN.{ℤ, pos, negsuc}
use Rattle.signed.specs.Floors.{floored}
use Rattle.kinds.specs.Kinds.{is_semi_scheduled}
use Rattle.telemetry.specs.Lines.{power_of}
use Rattle.telemetry.specs.Ranges.{is_unidirectional}
use Rattle.telemetry.specs.declared.Fields.{Fields}
use Rattle.telemetry.specs.declared.Reading.TheVariants.{Good}
use Rattle.telemetry.specs.declared.Quality.TheVariants as quality
use Rattle.kinds.specs.Kinds.{kind_of}
use Rattle.telemetry.proofs.Rows.{rows}
use Rattle.triggers.specs.Triggers.{direction_of, rate_of, unit_capability, trigger_of}
use Rattle.marks.specs.Errors.{error_of, exceeds}
use Rattle.marks.specs.Assessments.{kilowatts_in, is_missing, is_doubtful, is_known, mark_of, judged, up_of, down_of}
use Rattle.marks.specs.Assessments.{is_capped, unit_basis, known_assessment, readable_assessment, unit_assessment}
use Rattle.marks.specs.Table.{Triggers, Assessed, Table, kept_row}
use Rattle.marks.specs.declared.Basis.{Basis}
use Rattle.marks.specs.declared.Mark.{Mark}
use Rattle.marks.specs.declared.Mark.TheVariants.{Clear, Large}

good : (f : Fields) → f.quality ≡ quality.Good → power_of f ≡ Good f.readings.power
unfolding power_of
good f q = rw q

abbrev basis : ℕ → ℤ → ℕ → ℕ → Basis
basis kind power availability rate =
    record {
      power = power;
      target = pos 100000;
      up = up_of (kind_of kind) kept_row;
      down = down_of (kind_of kind) kept_row;
      availability = availability;
      rate = rate;
      doubtful = false;
      capped = is_capped (kind_of kind) false;
      unidirectional = is_unidirectional (kind_of kind);
    }

-- a row by its error, which computes from the kind and the power
row : (kind : ℕ) (power : ℤ) (mark : Mark) (error : ℤ) → is_semi_scheduled (kind_of kind) ≡ false
    → ((availability rate : ℕ) → error_of (basis kind power availability rate) ≡ error)
    → mark_of error 600000 600000 false ≡ mark
    → Assessed kind power mark error
unfolding unit_assessment readable_assessment known_assessment is_known is_missing judged floored unit_basis kilowatts_in is_doubtful
row kind power mark error k e m f q p t =
    let rate = rate_of (direction_of f.target power) (unit_capability f) in
    let s : Triggers f.availability rate 600000 600000 = rw (good f q, p) at t in
    rw (good f q, p, e f.availability rate, k, s.0, s.1) (m, refl)

pub table : Table
unfolding trigger_of error_of exceeds mark_of kind_of
table =
    record {
      floor = (refl, refl);
      by_rate = (refl, refl);
      by_availability = (refl, refl);
      bits = rows;
      at_trigger = row 1 (pos 111000) Clear (pos 6000) refl (λ a r. refl) refl;
      past_trigger = row 1 (pos 111001) Large (pos 6001) refl (λ a r. refl) refl;
      load_at_trigger = row 2 (pos 89000) Clear (negsuc 5999) refl (λ a r. refl) refl;
      load_past_trigger = row 2 (pos 88999) Large (negsuc 6000) refl (λ a r. refl) refl;
    }
