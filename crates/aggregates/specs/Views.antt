-- A member as its aggregate's sums take it: its readable line in whole kW and its kept line, or none where its line is unreadable. How the
-- code comes to the sums: nobody has to believe this. `proofs/Views.antt` has that a member's view adds what the member does.
use Rattle.std.specs.Prelude.{not, ◌&&◌, ◌||◌, List, [], ◌∷◌, Option, Some, None, ◌≤◌, min, eqb, nat_abs}
use Rattle.kinds.specs.declared.Kind.{Kind}
use Rattle.telemetry.specs.Lines.{power_of}
use Rattle.telemetry.specs.declared.Fields.{Fields}
use Rattle.triggers.specs.Triggers.{unit_capability, add_capability}
use Rattle.triggers.specs.declared.Capability.{Capability}
use Rattle.marks.specs.Assessments.{kilowatts_in, is_doubtful, is_known}
use Rattle.marks.specs.Bounds.{SmallKept}
use Rattle.marks.specs.declared.Kept.{Kept}
use Rattle.marks.specs.declared.Sight.{Sight}
use Rattle.aggregates.specs.Aggregates.{is_load, add_signed, add_kept, add_unreadable}
use Rattle.aggregates.specs.declared.View.{View}
use Rattle.aggregates.specs.declared.Flags.{Flags}
use Rattle.aggregates.specs.declared.Present.{Present}
use Rattle.aggregates.specs.declared.KeptSums.{KeptSums}
use Rattle.aggregates.specs.declared.Sums.{Sums}

-- ---- what is taken of a member

unfoldable pub readable_view : Option Kind → Fields → Option Kept → View
readable_view kind f k =
    record {
      load = is_load kind;
      monitored = not (eqb f.mode 0);
      known = is_known f k;
      doubtful = is_doubtful (power_of f);
      target = f.target;
      power = kilowatts_in (power_of f);
      availability = f.availability;
      up = (unit_capability f).up;
      down = (unit_capability f).down;
      kept = k;
    }

abbrev pub line_view : Option Kind → Option Fields → Option Kept → Option View
line_view kind (Some f) k = Some (readable_view kind f k)
line_view kind None k = None

unfoldable pub view_of : Sight → Option View
view_of v = line_view v.kind v.line v.kept

-- ---- one member more

unfoldable pub view_capability : View → Capability
view_capability v = record { availability = v.availability; up = v.up; down = v.down; least = min v.up v.down }

unfoldable pub flags_with : Flags → View → Flags
flags_with s v =
    record {
      readable = s.readable;
      monitored = s.monitored || v.monitored;
      known = s.known && v.known;
      doubtful = s.doubtful || v.doubtful;
    }

unfoldable pub present_with : Present → View → Present
present_with s v = record { target = add_signed v.load s.target v.target; power = add_signed v.load s.power v.power }

unfoldable pub kept_with : KeptSums → View → KeptSums
kept_with s v = add_kept v.load s v.kept

unfoldable pub add_readable_view : Sums → View → Sums
add_readable_view s v =
    record {
      flags = flags_with s.flags v;
      present = present_with s.present v;
      kept = kept_with s.kept v;
      supply = add_capability (not v.load) s.supply (view_capability v);
      loads = add_capability v.load s.loads (view_capability v);
    }

unfoldable pub add_view : Sums → Option View → Sums
add_view s (Some v) = add_readable_view s v
add_view s None = add_unreadable s

abbrev pub add_views : Sums → List (Option View) → Sums
add_views s [] = s
add_views s (v ∷ vs) = add_views (add_view s v) vs

-- ---- how large its numbers are

pub record SmallView (v : View) : Type 0 where
  pub target : nat_abs v.target ≤ 2000000
  pub power : nat_abs v.power ≤ 2000000
  pub availability : v.availability ≤ 2000000
  pub up : v.up ≤ 2000000
  pub down : v.down ≤ 2000000
  pub kept : SmallKept v.kept
