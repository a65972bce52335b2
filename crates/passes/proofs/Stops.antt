-- What 02, 2026-03 says of a pass, for every list of members: it goes to its end, or to the first unreadable one. Assumes nothing.
use mathlib.Core.Path.{◌≡◌, refl, sym, ◌∙◌}
use mathlib.Core.Bool.{Bool, true, false, ◌&&◌}
use mathlib.Core.List.{List, [], ◌∷◌, ◌++◌, map}
use Prim.Native.Nat.{ℕ, suc, ◌+◌, ◌≤◌}
use native.Mathlib.Omega.{arith}
use lib.ListN.{length}
use Rattle.trace.proofs.Tests.{and_l, and_r, chosen}
use Rattle.marks.specs.declared.Sight.{Sight}
use Rattle.aggregates.specs.Aggregates.{add_member, add_members, no_sums}
use Rattle.aggregates.specs.Views.{view_of, add_view}
use Rattle.aggregates.specs.declared.Sums.{Sums}
use Rattle.aggregates.proofs.Views.{add-views}
use Rattle.passes.specs.Passes.{is_readable, looked_at, pass_over, whole, early}
use Rattle.passes.proofs.Looks.{view-read, unreadable-last, views-stay, unreadable-blank}

abbrev pub all_readable : List Sight → Bool
all_readable [] = true
all_readable (v ∷ vs) = is_readable v.line && all_readable vs

-- A list of members is of one of two sorts.
pub data Members : List Sight → Type 0 where
  readable : (members : List Sight) → all_readable members ≡ true → Members members
  unreadable : (before : List Sight) (v : Sight) (after : List Sight) → all_readable before ≡ true → is_readable v.line ≡ false
      → Members (before ++ (v ∷ after))

pub members-are : (members : List Sight) → Members members
members-are [] = readable [] refl
members-are (v ∷ vs) = go vs (is_readable v.line) refl (members-are vs)
  where
    go : (later : List Sight) (t : Bool) → is_readable v.line ≡ t → Members later → Members (v ∷ later)
    go later false e _ = unreadable [] v later refl e
    go later true e (readable _ r) = readable (v ∷ later) (rw (e, r))
    go later true e (unreadable before w after r u) = unreadable (v ∷ before) w after (rw (e, r)) u

-- ---- how far, and with what sums

looked-whole : (members : List Sight) → all_readable members ≡ true → looked_at members ≡ length members
unfolding looked_at
looked-whole [] e = refl
looked-whole (v ∷ vs) e = rw (and_l (is_readable v.line) (all_readable vs) e, looked-whole vs (and_r (is_readable v.line) _ e))

module _ (v : Sight) (after : List Sight) (u : is_readable v.line ≡ false) where
  looked-early : (before : List Sight) → all_readable before ≡ true → looked_at (before ++ (v ∷ after)) ≡ length before + 1
  unfolding looked_at
  looked-early [] e = rw u
  looked-early (b ∷ bs) e =
      let n : suc (length bs + 1) ≡ suc (length bs) + 1 = omega arith in
      rw (and_l (is_readable b.line) (all_readable bs) e, looked-early bs (and_r (is_readable b.line) _ e), n)

  unreadable-sums : (s : Sums) (before : List Sight) → (add_members s (before ++ (v ∷ after))).flags.readable ≡ false
  unreadable-sums s [] =
      rw (sym (add-views s (v ∷ after)))
      (views-stay (add_view s (view_of v)) (map view_of after) (unreadable-last s (view_of v) (view-read v ∙ u)))
  unreadable-sums s (b ∷ bs) = unreadable-sums (add_member s b) bs

-- ---- the request's sentences

-- "or the length of the chain if there is none"; the mark is that of the sums over all
pub pass-whole : (members : List Sight) → all_readable members ≡ true → pass_over members ≡ whole (add_members no_sums members) (length members)
unfolding pass_over whole
pass-whole members e = rw (looked-whole members e)

-- "the first unreadable one's place in the chain"; BLANK, whatever comes before it and after it
pub pass-early : (before : List Sight) (v : Sight) (after : List Sight) → all_readable before ≡ true → is_readable v.line ≡ false
    → pass_over (before ++ (v ∷ after)) ≡ early (length before + 1)
unfolding pass_over early
pass-early before v after e u =
    rw (looked-early v after u before e, unreadable-blank (add_members no_sums (before ++ (v ∷ after))) (unreadable-sums v after u no_sums before))

-- ---- so many at most, and at least one where there is a member

pub looked-most : (members : List Sight) → looked_at members ≤ length members
unfolding looked_at
looked-most [] = omega arith
looked-most (v ∷ vs) =
    let h = looked-most vs in
    chosen (λ (n : ℕ). n ≤ length (v ∷ vs)) (is_readable v.line) (suc (looked_at vs)) 1 (omega arith) (omega arith)

pub looked-least : (v : Sight) (vs : List Sight) → 1 ≤ looked_at (v ∷ vs)
unfolding looked_at
looked-least v vs = chosen (λ (n : ℕ). 1 ≤ n) (is_readable v.line) (suc (looked_at vs)) 1 (omega arith) (omega arith)
