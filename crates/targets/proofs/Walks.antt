-- An aggregate's target along its stretch, one member at a time. Assumes nothing.
use mathlib.Core.Path.{◌≡◌, refl, sym, ap, ◌∙◌}
use mathlib.Core.Bool.{Bool, ◌&&◌, and-true, and-false}
use mathlib.Core.List.{List, [], ◌∷◌, map}
use Prim.Native.Nat.{ℕ, ◌+◌, ◌*◌, ◌≤◌, ◌<◌}
use native.Mathlib.Omega.{arith}
use Rattle.std.specs.Prelude.{Option, Some, None}
use lib.ListN.{length, get_or, drop, drop_of_length-le}
use Rattle.std.proofs.Math.Seq.{drop-cons}
use Rattle.std.proofs.Common.{add-one}
use Rattle.trace.specs.Lists.{all_in, fold}
use Rattle.plants.specs.Rosters.{stretch_of, held}
use Rattle.plants.specs.declared.Roster.{Roster}
use Rattle.plants.proofs.Soundness.{sound-units}
use Rattle.plants.proofs.Stretches.{stretch-few, stretch-at}
use Rattle.marks.specs.Bounds.{SmallKept}
use Rattle.marks.specs.declared.Kept.{Kept}
use Rattle.aggregates.proofs.Small.{signed-size}
use Rattle.targets.specs.Targets.{Member, member_at, members_kept, has_line, with_lines, add_target, add_raise, add_lower, target_over, target_of}
use Rattle.targets.specs.Targets.{kept_in}
use Rattle.targets.specs.Walks.{no_members, add_member, SmallTarget, Known}
use Rattle.targets.specs.declared.Target.{Target}

-- ---- a list of members, from the sums so far

unfoldable pub target_from : Target → List Member → Target
target_from t members =
    record {
      target = fold add_target t.target (with_lines members);
      raise = fold add_raise t.raise (with_lines members);
      lower = fold add_lower t.lower (with_lines members);
      complete = t.complete && all_in has_line members;
    }

pub from_start : (members : List Member) → target_from no_members members ≡ target_over members
unfolding target_from target_over
from_start members = refl

pub from_end : (t : Target) → target_from t [] ≡ t
unfolding target_from
from_end t = rw (and-true t.complete)

from_one : (t : Target) (load : Bool) (k : Option Kept) (vs : List Member)
    → target_from t (record { load = load; line = k } ∷ vs) ≡ target_from (add_member t load k) vs
unfolding target_from add_member
from_one t load (Some k) vs = refl
from_one t load None vs = rw (and-false t.complete)

pub from_more : (t : Target) (v : Member) (vs : List Member) → target_from t (v ∷ vs) ≡ target_from (add_member t v.load v.line) vs
from_more t v vs = from_one t v.load v.line vs

-- ---- each member adds at most 2,000,000

wider : {m n : ℕ} {t : Target} → m ≤ n → SmallTarget m t → SmallTarget n t
wider h s = omega arith

member-more : {n : ℕ} (t : Target) (load : Bool) (k : Option Kept) → SmallTarget n t → SmallKept k
    → SmallTarget (n + 2000000) (add_member t load k)
unfolding add_member
member-more t load (Some k) s small = omega (arith, signed-size load t.target k.target)
member-more t load None s small = omega arith

-- ---- along a stretch

-- the members that are left
abbrev pub left : Roster → List (Option Kept) → List ℕ → ℕ → List Member
left roster kept places k = map (member_at (held roster) (kept_in kept)) (drop k places)

-- what the members so far and those that are left give is what the whole stretch does
pub record Along (roster : Roster) (kept : List (Option Kept)) (aggregate : ℕ) (t : Target) (places : List ℕ) (k : ℕ) : Type 0 where
  pub stretch : places ≡ stretch_of roster aggregate
  pub most : k ≤ length places
  pub small : SmallTarget (2000000 * k) t
  pub ends : target_from t (left roster kept places k) ≡ target_of (held roster) (kept_in kept) aggregate

module _ {roster : Roster} {kept : List (Option Kept)} {aggregate : ℕ} where
  pub along-none : {t : Target} {places : List ℕ} → t ≡ no_members → places ≡ stretch_of roster aggregate
      → Along roster kept aggregate t places 0
  unfolding target_of members_kept
  along-none e p =
      record {
        stretch = p;
        most = omega arith;
        small = rw e (omega arith);
        ends = rw (e, p) (from_start _);
      }

  module _ {t : Target} {places : List ℕ} {k : ℕ} (a : Along roster kept aggregate t places k) where
    pub along-end : length places ≤ k → t ≡ target_of (held roster) (kept_in kept) aggregate
    along-end h =
        sym (from_end t) ∙ ap (λ (us : List ℕ). target_from t (map (member_at (held roster) (kept_in kept)) us)) (sym (drop_of_length-le places h)) ∙ a.ends

    -- one more, as the loop reads it
    module _ (known : Known roster kept) (l : aggregate < roster.aggregates) (m : k < length places) where
      abbrev here : ℕ
      here = get_or places k 0

      abbrev member : Member
      member = member_at (held roster) (kept_in kept) here

      few : length places ≤ 64
      few = rw a.stretch (stretch-few roster known.sound aggregate l)

      pub along-small : SmallTarget 130000000 t
      along-small = let bound : 2000000 * k ≤ 130000000 = omega (arith, few, m) in wider bound a.small

      pub along-here : here < roster.units
      along-here = stretch-at roster known.sound aggregate l a.stretch k m

      pub along-within : here < 64
      along-within = omega (arith, along-here, sound-units roster known.sound)

      pub along-kept : SmallKept (kept_in kept here)
      along-kept = known.small here along-here

      pub along-more : {i : ℕ} {next : Target} → i ≡ here
          → next ≡ add_member t (member_at (held roster) (kept_in kept) i).load (member_at (held roster) (kept_in kept) i).line
          → Along roster kept aggregate next places (k + 1)
      unfolding member_at
      along-more same q =
          let e : _ ≡ add_member t member.load member.line = rw same at q in
          let bound : 2000000 * k + 2000000 ≤ 2000000 * (k + 1) = omega arith in
          let more = ap (λ (us : List ℕ). target_from t (map (member_at (held roster) (kept_in kept)) us)) (drop-cons places k 0 m) in
          record {
            stretch = a.stretch;
            most = omega (arith, m);
            small = rw e (wider bound (member-more t member.load member.line a.small along-kept));
            ends = rw (e, add-one) (sym (from_more t member _) ∙ sym more ∙ a.ends);
          }

-- one member's turn, but for what it adds
pub ruleset along = (along-none, along-small, along-within, along-kept, along-end)
