-- The assessment of an aggregate from its members, added one by one (01, "Triggers and errors" and "Marks and runs").
use Rattle.std.specs.Prelude.{Bool, true, false, cond, not, ◌&&◌, ◌||◌, List, [], ◌∷◌, Option, Some, None, max, eqb, ℤ, pos, ◌+ℤ◌, ◌-ℤ◌}
use Rattle.kinds.specs.declared.Kind.{Kind}
use Rattle.kinds.specs.declared.Kind.TheVariants.{Generating, Load, Bidirectional, SemiScheduled}
use Rattle.telemetry.specs.Lines.{power_of}
use Rattle.telemetry.specs.declared.Fields.{Fields}
use Rattle.triggers.specs.Triggers.{direction_of, opposite, rate_of, unit_capability, add_capability}
use Rattle.marks.specs.Assessments.{kilowatts_in, is_doubtful, is_known, judged, without}
use Rattle.triggers.specs.declared.Direction.{Direction}
use Rattle.triggers.specs.declared.Capability.{Capability}
use Rattle.marks.specs.declared.Kept.{Kept}
use Rattle.marks.specs.declared.Sight.{Sight}
use Rattle.marks.specs.declared.Mark.TheVariants.{Off, Blank}
use Rattle.marks.specs.declared.Basis.{Basis}
use Rattle.marks.specs.declared.Assessment.{Assessment}
use Rattle.aggregates.specs.declared.Flags.{Flags}
use Rattle.aggregates.specs.declared.Present.{Present}
use Rattle.aggregates.specs.declared.KeptSums.{KeptSums}
use Rattle.aggregates.specs.declared.Sums.{Sums}

-- kind 2: "load"
abbrev pub is_load : Option Kind → Bool
is_load None = false
is_load (Some Generating) = false
is_load (Some Load) = true
is_load (Some Bidirectional) = false
is_load (Some SemiScheduled) = false

-- ---- one member more

-- "loads subtracted"
unfoldable pub add_signed : Bool → ℤ → ℤ → ℤ
add_signed load sum z = cond load (sum -ℤ z) (sum +ℤ z)

-- whether every line is readable, some conformance mode is not 0, every member can be assessed, and some value is substituted
unfoldable pub add_flags : Flags → Fields → Option Kept → Flags
add_flags s f k =
    record {
      readable = s.readable;
      monitored = s.monitored || not (eqb f.mode 0);
      known = s.known && is_known f k;
      doubtful = s.doubtful || is_doubtful (power_of f);
    }

-- this interval's MWB and MW, signed
unfoldable pub add_present : Bool → Present → Fields → Present
add_present load s f =
    record { target = add_signed load s.target f.target; power = add_signed load s.power (kilowatts_in (power_of f)) }

-- the kept MWB, signed, and "FCR as up and FCL as down of all members"; a member of which nothing is kept adds nothing
unfoldable pub add_kept : Bool → KeptSums → Option Kept → KeptSums
add_kept load s None = s
add_kept load s (Some k) =
    record {
      target = add_signed load s.target k.target;
      raise = s.raise +ℤ pos k.raise;
      lower = s.lower +ℤ pos k.lower;
    }

unfoldable pub add_readable : Sums → Option Kind → Fields → Option Kept → Sums
add_readable s kind f k =
    record {
      flags = add_flags s.flags f k;
      present = add_present (is_load kind) s.present f;
      kept = add_kept (is_load kind) s.kept k;
      supply = add_capability (not (is_load kind)) s.supply (unit_capability f);
      loads = add_capability (is_load kind) s.loads (unit_capability f);
    }

abbrev pub unreadable_flags : Flags → Flags
unreadable_flags s = record { readable = false; monitored = s.monitored; known = s.known; doubtful = s.doubtful }

unfoldable pub add_unreadable : Sums → Sums
add_unreadable s =
    record {
      flags = unreadable_flags s.flags;
      present = s.present;
      kept = s.kept;
      supply = s.supply;
      loads = s.loads;
    }

abbrev pub add_line : Sums → Option Kind → Option Fields → Option Kept → Sums
add_line s kind (Some f) k = add_readable s kind f k
add_line s kind None k = add_unreadable s

unfoldable pub add_member : Sums → Sight → Sums
add_member s v = add_line s v.kind v.line v.kept

-- ---- all members, first to last

abbrev pub no_capability : Capability
no_capability = record { availability = 0; up = 0; down = 0; least = 0 }

abbrev pub no_sums : Sums
no_sums =
    record {
      flags = record { readable = true; monitored = false; known = true; doubtful = false };
      present = record { target = pos 0; power = pos 0 };
      kept = record { target = pos 0; raise = pos 0; lower = pos 0 };
      supply = no_capability;
      loads = no_capability;
    }

abbrev pub add_members : Sums → List Sight → Sums
add_members s [] = s
add_members s (v ∷ vs) = add_members (add_member s v) vs

-- ---- the assessment

-- "the sums of MWB and MW (loads subtracted) decide"
abbrev pub way_of : Sums → Direction
way_of s = direction_of s.present.target s.present.power

-- "MWO and ROC are each the greater of two sums, one over kinds 1 and 3, one over kind 2". "Kind 4 stands in no chain for now"
-- (2026-01), so no cap holds; aggregates "keep the signed value" as their level (2026-02)
unfoldable pub aggregate_basis : Sums → Basis
aggregate_basis s =
    record {
      power = s.present.power;
      target = s.kept.target;
      up = s.kept.raise;
      down = s.kept.lower;
      availability = max s.supply.availability s.loads.availability;
      rate = max (rate_of (way_of s) s.supply) (rate_of (opposite (way_of s)) s.loads);
      doubtful = s.flags.doubtful;
      capped = false;
      unidirectional = false;
    }

-- "a member unreadable → BLANK; all conformance modes 0 → OFF", then "quality 2, or nothing kept, for .. any member → BLANK"
abbrev pub decided : Bool → Bool → Bool → Basis → Assessment
decided readable monitored known basis =
    cond readable (cond monitored (cond known (judged basis) (without Blank)) (without Off)) (without Blank)

unfoldable pub sums_assessment : Sums → Assessment
sums_assessment s = decided s.flags.readable s.flags.monitored s.flags.known (aggregate_basis s)

abbrev pub aggregate_assessment : List Sight → Assessment
aggregate_assessment members = sums_assessment (add_members no_sums members)
