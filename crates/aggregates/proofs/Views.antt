-- A member's view adds what the member does. Assumes nothing.
use mathlib.Core.Path.{◌≡◌, refl, ap, ◌∙◌}
use Rattle.std.specs.Prelude.{Option, Some, None}
use Rattle.kinds.specs.declared.Kind.{Kind}
use Rattle.telemetry.specs.declared.Fields.{Fields}
use mathlib.Core.List.{List, [], ◌∷◌, map}
use Rattle.triggers.specs.Triggers.{capability_of}
use Rattle.marks.specs.declared.Kept.{Kept}
use Rattle.marks.specs.declared.Sight.{Sight}
use Rattle.aggregates.specs.Aggregates.{add_flags, add_present, add_readable, add_line, add_member, add_members}
use Rattle.aggregates.specs.Views.{readable_view, line_view, view_of}
use Rattle.aggregates.specs.Views.{view_capability, flags_with, present_with, kept_with, add_readable_view, add_view, add_views}
use Rattle.aggregates.specs.declared.Sums.{Sums}

line-view : (s : Sums) (kind : Option Kind) (l : Option Fields) (k : Option Kept) → add_view s (line_view kind l k) ≡ add_line s kind l k
unfolding add_view add_readable_view flags_with present_with kept_with view_capability readable_view add_readable add_flags add_present capability_of
line-view s kind (Some f) k = refl
line-view s kind None k = refl

pub add-view : (s : Sums) (v : Sight) → add_view s (view_of v) ≡ add_member s v
unfolding view_of add_member
add-view s v = line-view s v.kind v.line v.kept

pub add-views : (s : Sums) (vs : List Sight) → add_views s (map view_of vs) ≡ add_members s vs
add-views s [] = refl
add-views s (v ∷ vs) = ap (λ (t : Sums). add_views t (map view_of vs)) (add-view s v) ∙ add-views (add_member s v) vs
