-- The assessment of a unit: mark, error, small trigger and level (01, "Triggers and errors" and "Marks and runs"; 02, 2026-01 and 2026-02).
use Rattle.std.specs.Prelude.{Bool, true, false, cond, not, ◌&&◌, ℕ, eqb, Option, Some, None, is_some, ℤ, pos}
use Rattle.kinds.specs.declared.Kind.{Kind}
use Rattle.kinds.specs.declared.Kind.TheVariants.{Generating, Load, Bidirectional, SemiScheduled}
use Rattle.floats.specs.Kilowatts.{kilowatts_of}
use Rattle.kinds.specs.Kinds.{is_semi_scheduled}
use Rattle.telemetry.specs.Lines.{power_of}
use Rattle.telemetry.specs.Ranges.{is_unidirectional}
use Rattle.telemetry.specs.declared.Fields.{Fields}
use Rattle.telemetry.specs.declared.Reading.{Reading}
use Rattle.telemetry.specs.declared.Reading.TheVariants.{Good, Substituted, Missing}
use Rattle.triggers.specs.Triggers.{direction_of, rate_of, unit_capability, small_trigger, large_trigger}
use Rattle.marks.specs.Errors.{error_of, counted_of, exceeds}
use Rattle.marks.specs.Levels.{level_of}
use Rattle.marks.specs.declared.Kept.{Kept}
use Rattle.marks.specs.declared.Sight.{Sight}
use Rattle.marks.specs.declared.Mark.{Mark}
use Rattle.marks.specs.declared.Mark.TheVariants.{Off, Blank, Clear, Doubt, Small, Large}
use Rattle.marks.specs.declared.Basis.{Basis}
use Rattle.marks.specs.declared.Assessment.{Assessment}

-- ---- a telemetry value

unfoldable pub kilowatts_in : Reading → ℤ
kilowatts_in (Good x) = kilowatts_of x
kilowatts_in (Substituted x) = kilowatts_of x
kilowatts_in Missing = pos 0

-- quality 2
unfoldable pub is_missing : Reading → Bool
is_missing (Good x) = false
is_missing (Substituted x) = false
is_missing Missing = true

-- quality 1
unfoldable pub is_doubtful : Reading → Bool
is_doubtful (Good x) = false
is_doubtful (Substituted x) = true
is_doubtful Missing = false

-- neither "quality 2" nor "nothing kept"
unfoldable pub is_known : Fields → Option Kept → Bool
is_known f k = not (is_missing (power_of f)) && is_some k

-- ---- what a unit and an aggregate share

-- "no small trigger exceeded → CLEAR; quality 1 .. → DOUBT; large exceeded → LARGE; otherwise SMALL"
unfoldable pub mark_of : ℤ → ℕ → ℕ → Bool → Mark
mark_of error small large doubtful = cond (exceeds error small) (cond doubtful Doubt (cond (exceeds error large) Large Small)) Clear

-- the mark goes by the error that counts, and the whole error is reported; the level is the one of a declaration, should this mark bring it
unfoldable pub judged : Basis → Assessment
judged b =
    record {
      mark =
          mark_of (counted_of b.capped (error_of b)) (small_trigger b.availability b.rate) (large_trigger b.availability b.rate)
          b.doubtful;
      error = error_of b;
      trigger = small_trigger b.availability b.rate;
      level = level_of b.unidirectional b.power;
    }

-- "Error and trigger are 0 for OFF and BLANK"
abbrev pub without : Mark → Assessment
without mark = record { mark = mark; error = pos 0; trigger = 0; level = pos 0 }

-- ---- a unit

-- "For kinds 1 and 3 up = FCR and down = FCL; for a load up = FCL and down = FCR"; kind 4 has "regulation sides as for kind 1"
abbrev pub up_of : Option Kind → Kept → ℤ
up_of (Some Generating) k = pos k.raise
up_of (Some Load) k = pos k.lower
up_of (Some Bidirectional) k = pos k.raise
up_of (Some SemiScheduled) k = pos k.raise
up_of None k = pos k.raise

abbrev pub down_of : Option Kind → Kept → ℤ
down_of (Some Generating) k = pos k.lower
down_of (Some Load) k = pos k.raise
down_of (Some Bidirectional) k = pos k.lower
down_of (Some SemiScheduled) k = pos k.lower
down_of None k = pos k.lower

-- "With a kept flag of 1 only a positive error counts" (2026-01)
abbrev pub is_capped : Option Kind → Bool → Bool
is_capped kind flag = is_semi_scheduled kind && flag

-- "A kept flag of 0 gives OFF" (2026-01)
abbrev pub is_uncapped : Option Kind → Bool → Bool
is_uncapped kind flag = is_semi_scheduled kind && not flag

-- "The error compares MW of this line with MWB, FCR and FCL kept"; the rate of change goes by this line's MWB
unfoldable pub unit_basis : Option Kind → Fields → Kept → Basis
unit_basis kind f k =
    let power = kilowatts_in (power_of f) in
    record {
      power = power;
      target = k.target;
      up = up_of kind k;
      down = down_of kind k;
      availability = f.availability;
      rate = rate_of (direction_of f.target power) (unit_capability f);
      doubtful = is_doubtful (power_of f);
      capped = is_capped kind k.capped;
      unidirectional = is_unidirectional kind;
    }

-- a kept flag of 0 is "tested after the rule for nothing kept"
unfoldable pub known_assessment : Option Kind → Fields → Kept → Assessment
known_assessment kind f k = cond (is_uncapped kind k.capped) (without Off) (judged (unit_basis kind f k))

-- "quality 2, or nothing kept .. → BLANK"
abbrev pub kept_assessment : Option Kind → Fields → Option Kept → Assessment
kept_assessment kind f (Some k) = cond (is_missing (power_of f)) (without Blank) (known_assessment kind f k)
kept_assessment kind f None = without Blank

-- "member unit: .. conformance mode not 2 → OFF", before that
unfoldable pub readable_assessment : Option Kind → Bool → Fields → Option Kept → Assessment
readable_assessment kind chained f k = cond (chained && not (eqb f.mode 2)) (without Off) (kept_assessment kind f k)

-- "unreadable → BLANK" goes first
abbrev pub line_assessment : Option Kind → Bool → Option Fields → Option Kept → Assessment
line_assessment kind chained (Some f) k = readable_assessment kind chained f k
line_assessment kind chained None k = without Blank

unfoldable pub unit_assessment : Bool → Sight → Assessment
unit_assessment chained unit = line_assessment unit.kind chained unit.line unit.kept
