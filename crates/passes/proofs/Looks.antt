-- A pass over what is seen of members, one at a time, from the sums and the count so far. Assumes nothing.
use mathlib.Core.Path.{◌≡◌, refl, sym, ap, ◌∙◌}
use mathlib.Core.Bool.{Bool, true, false, cond}
use mathlib.Core.List.{List, [], ◌∷◌, map}
use Prim.Native.Nat.{ℕ, suc, ◌+◌}
use native.Mathlib.Omega.{arith}
use Rattle.std.specs.Prelude.{Option, Some, None, is_some}
use Rattle.kinds.specs.declared.Kind.{Kind}
use Rattle.telemetry.specs.declared.Fields.{Fields}
use Rattle.marks.specs.Assessments.{without}
use Rattle.marks.specs.declared.Kept.{Kept}
use Rattle.marks.specs.declared.Mark.TheVariants.{Blank}
use Rattle.marks.specs.declared.Sight.{Sight}
use Rattle.aggregates.specs.Aggregates.{add_unreadable, no_sums, sums_assessment}
use Rattle.aggregates.specs.Views.{line_view, view_of, flags_with, add_readable_view, add_view, add_views}
use Rattle.aggregates.specs.declared.Sums.{Sums}
use Rattle.aggregates.specs.declared.View.{View}
use Rattle.aggregates.proofs.Views.{add-views}
use Rattle.passes.specs.Passes.{is_readable, looked_at, pass_over, whole}
use Rattle.passes.specs.Seen.{looked_in, pass_from}
use Rattle.passes.specs.declared.Pass.{Pass}

-- ---- whether every line so far is readable

abbrev all_read : Sums → Bool
all_read s = s.flags.readable

unreadable-found : (s : Sums) → all_read (add_view s None) ≡ false
unfolding add_view add_unreadable
unreadable-found s = refl

readable-found : (s : Sums) (v : View) → all_read (add_view s (Some v)) ≡ all_read s
unfolding add_view add_readable_view flags_with
readable-found s v = refl

found-is : (s : Sums) (v : Option View) → all_read s ≡ true → all_read (add_view s v) ≡ is_some v
found-is s (Some v) r = readable-found s v ∙ r
found-is s None r = unreadable-found s

-- the flag stays false after an unreadable line
pub unreadable-last : (s : Sums) (v : Option View) → is_some v ≡ false → all_read (add_view s v) ≡ false
unreadable-last s None e = unreadable-found s
unreadable-last s (Some v) e = cc

found-stays : (s : Sums) (v : Option View) → all_read s ≡ false → all_read (add_view s v) ≡ false
found-stays s (Some v) r = readable-found s v ∙ r
found-stays s None r = unreadable-found s

pub views-stay : (s : Sums) (vs : List (Option View)) → s.flags.readable ≡ false → (add_views s vs).flags.readable ≡ false
views-stay s [] e = e
views-stay s (v ∷ vs) e = views-stay (add_view s v) vs (found-stays s v e)

pub unreadable-blank : (s : Sums) → s.flags.readable ≡ false → sums_assessment s ≡ without Blank
unfolding sums_assessment
unreadable-blank s e = rw e

-- ---- a pass from its sums and count so far over the members that are left, of which it looks at none once a line was unreadable

-- whether every line so far was readable, the sums over all, and how many were looked at, so far and of the others
abbrev ran : Bool → Sums → ℕ → ℕ → Pass
ran readable sums looked more = record { assessment = sums_assessment sums; looked = looked + cond readable more 0 }

unfoldable pub run_from : Sums → ℕ → List (Option View) → Pass
run_from s looked vs = ran (all_read s) (add_views s vs) looked (looked_in vs)

pub run-start : (vs : List (Option View)) → run_from no_sums 0 vs ≡ pass_from vs
unfolding run_from pass_from
run-start vs = let e : 0 + looked_in vs ≡ looked_in vs = omega arith in rw e

pub run_more : (s : Sums) (looked : ℕ) (v : Option View) (vs : List (Option View)) → s.flags.readable ≡ true
    → run_from s looked (v ∷ vs) ≡ run_from (add_view s v) (looked + 1) vs
unfolding run_from looked_in
run_more s looked v vs r =
    ap (λ (b : Bool). ran b all looked (looked_in (v ∷ vs))) r
    ∙ go (is_some v)
    ∙ ap (λ (b : Bool). ran b all (looked + 1) (looked_in vs)) (sym (found-is s v r))
  where
    all : Sums
    all = add_views (add_view s v) vs

    go : (b : Bool) → ran true all looked (cond b (suc (looked_in vs)) 1) ≡ ran b all (looked + 1) (looked_in vs)
    go true = let n : looked + suc (looked_in vs) ≡ looked + 1 + looked_in vs = omega arith in rw n
    go false = let n : looked + 1 + 0 ≡ looked + 1 = omega arith in rw n

pub run_end : (s : Sums) (looked : ℕ) → run_from s looked [] ≡ whole s looked
unfolding run_from whole looked_in
run_end s looked = go (all_read s)
  where
    n : looked + 0 ≡ looked
    n = omega arith

    go : (b : Bool) → ran b s looked 0 ≡ whole s looked
    go true = rw n
    go false = rw n

pub run-stopped : (s : Sums) (looked : ℕ) (vs : List (Option View)) → s.flags.readable ≡ false → run_from s looked vs ≡ whole s looked
unfolding run_from whole
run-stopped s looked vs e =
    let n : looked + 0 ≡ looked = omega arith in
    rw (unreadable-blank (add_views s vs) (views-stay s vs e), unreadable-blank s e, e, n)

-- ---- of members by their views, it is the pass over the members

line_read : (kind : Option Kind) (l : Option Fields) (k : Option Kept) → is_some (line_view kind l k) ≡ is_readable l
line_read kind (Some f) k = refl
line_read kind None k = refl

pub view-read : (v : Sight) → is_some (view_of v) ≡ is_readable v.line
unfolding view_of
view-read v = line_read v.kind v.line v.kept

looked-of : (vs : List Sight) → looked_in (map view_of vs) ≡ looked_at vs
unfolding looked_in looked_at
looked-of [] = refl
looked-of (v ∷ vs) = rw (view-read v, looked-of vs)

pub pass_of : (vs : List Sight) → pass_from (map view_of vs) ≡ pass_over vs
unfolding pass_from pass_over
pass_of vs = rw (add-views no_sums vs, looked-of vs)
