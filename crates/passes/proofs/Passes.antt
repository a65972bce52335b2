-- A pass along a stretch, one member at a time, and what stands at each aggregate's place. Assumes nothing.
use mathlib.Core.Path.{◌≡◌, refl, sym, ap, ◌∙◌}
use mathlib.Core.Bool.{Bool, true, false, not}
use mathlib.Core.List.{List, ◌∷◌, map, map-map}
use Prim.Native.Nat.{ℕ, ◌+◌, ◌*◌, ◌≤◌, ◌<◌}
use native.Mathlib.Omega.{arith}
use lib.ListN.{length, get_or, drop, replicate, length-replicate, drop_of_length-le}
use Rattle.std.specs.Prelude.{Option, IfSome}
use Rattle.std.proofs.Common.{add-one}
use Rattle.std.proofs.Math.Seq.{drop-cons}
use Rattle.trace.proofs.Sweeps.{get_or-sweep}
use Rattle.plants.specs.Rosters.{stretch_of, roster_sound}
use Rattle.plants.specs.declared.Roster.{Roster}
use Rattle.plants.proofs.Soundness.{sound-units, sound-aggregates}
use Rattle.plants.proofs.Stretches.{stretch-few, member-inside, stretch-at, map_same}
use Rattle.marks.specs.declared.Sight.{Sight}
use Rattle.aggregates.specs.Aggregates.{no_sums}
use Rattle.aggregates.specs.Sizes.{SmallSums}
use Rattle.aggregates.specs.Views.{SmallView, view_of, add_view}
use Rattle.aggregates.specs.declared.Sums.{Sums}
use Rattle.aggregates.specs.declared.View.{View}
use Rattle.aggregates.proofs.Small.{view-more, wider, no-sums-small}
use Rattle.passes.specs.Passes.{pass_over, whole}
use Rattle.passes.specs.Seen.{seen_at, members_seen, Seen, pass_from, no_pass, pass_at, passes_of, PassesOver}
use Rattle.passes.specs.declared.Pass.{Pass}
use Rattle.passes.proofs.Looks.{run_from, run-start, run_more, run_end, run-stopped, pass_of}

double_not : {a b : Bool} → not a ≡ b → a ≡ not b
double_not {a = true} e = ap not e
double_not {a = false} e = ap not e

-- ---- along a stretch

-- the members that are left, as they are seen
abbrev pub left : List (Option View) → List ℕ → ℕ → List (Option View)
left seen places k = map (seen_at seen) (drop k places)

-- The pass over the members that are left ends as the whole one does. Each member adds at most 2,000,000.
pub record Along (roster : Roster) (seen : List (Option View)) (j : ℕ) (sums : Sums) (places : List ℕ) (k looked : ℕ) : Type 0 where
  pub stretch : places ≡ stretch_of roster j
  pub counted : looked ≡ k
  pub inside : k ≤ length places
  pub small : SmallSums (2000000 * looked) sums
  pub read : sums.flags.readable ≡ true
  pub ends : run_from sums looked (left seen places k) ≡ pass_at roster seen j

-- and at the end, after the last member or after an unreadable one
pub record Ended (roster : Roster) (seen : List (Option View)) (j : ℕ) (sums : Sums) (looked : ℕ) : Type 0 where
  pub small : SmallSums 130000000 sums
  pub ends : whole sums looked ≡ pass_at roster seen j

module _ {roster : Roster} {seen : List (Option View)} {j : ℕ} where
  pub along-none : {sums : Sums} {places : List ℕ} → sums ≡ no_sums → places ≡ stretch_of roster j → Along roster seen j sums places 0 0
  unfolding members_seen
  along-none e p =
      record {
        stretch = p;
        counted = refl;
        inside = omega arith;
        small = rw e no-sums-small;
        read = rw e;
        ends = rw (e, p) (run-start _);
      }

  module _ (known : Seen roster seen) (l : j < roster.aggregates) {sums : Sums} {places : List ℕ} {k looked : ℕ}
      (a : Along roster seen j sums places k looked) where
    pub along-few : length places ≤ 64
    along-few = rw a.stretch (stretch-few roster known.sound j l)

    pub along-small : SmallSums 130000000 sums
    along-small = let bound : 2000000 * looked ≤ 130000000 = omega (arith, along-few, a.counted, a.inside) in wider bound a.small

    -- one more, as the loop counts and reads it
    module _ (m : k < length places) where
      abbrev here : ℕ
      here = get_or places k 0

      inside : here < roster.units
      inside = stretch-at roster known.sound j l a.stretch k m

      pub place-in : here < 64
      place-in = omega (arith, inside, sound-units roster known.sound)

      pub member-small : IfSome (seen_at seen here) (λ view. SmallView view)
      member-small = known.small here inside

      module _ {next : Sums} (n : next ≡ add_view sums (seen_at seen here)) where
        more-small : SmallSums (2000000 * (looked + 1)) next
        more-small =
            let bound : 2000000 * looked + 2000000 ≤ 2000000 * (looked + 1) = omega arith in
            rw n (wider bound (view-more sums (seen_at seen here) a.small member-small))

        more-ends : run_from next (looked + 1) (left seen places (k + 1)) ≡ pass_at roster seen j
        more-ends =
            let more : left seen places k ≡ seen_at seen here ∷ left seen places (k + 1) =
            rw add-one (ap (map (seen_at seen)) (drop-cons places k 0 m)) in
            rw n (sym (run_more sums looked _ _ a.read) ∙ ap (run_from sums looked) (sym more) ∙ a.ends)

        pub along-more : not next.flags.readable ≡ false → Along roster seen j next places (k + 1) (looked + 1)
        along-more e =
            record {
              stretch = a.stretch;
              counted = omega (arith, a.counted);
              inside = omega (arith, m);
              small = more-small;
              read = double_not e;
              ends = more-ends;
            }

        pub ended-early : not next.flags.readable ≡ true → Ended roster seen j next (looked + 1)
        ended-early e =
            let bound : 2000000 * (looked + 1) ≤ 130000000 = omega (arith, along-few, a.counted, m) in
            record {
              small = wider bound more-small;
              ends = sym (run-stopped next (looked + 1) (left seen places (k + 1)) (double_not e)) ∙ more-ends;
            }

    pub ended-whole : length places ≤ k → Ended roster seen j sums looked
    ended-whole h =
        record {
          small = along-small;
          ends =
              sym (run_end sums looked) ∙ ap (run_from sums looked) (sym (ap (map (seen_at seen)) (drop_of_length-le places h))) ∙ a.ends;
        }

-- ---- what stands at an aggregate's place, and of members seen by their views, the pass over the members

pub passes_at : (roster : Roster) (seen : List (Option View)) (j : ℕ) → j < roster.aggregates → roster.aggregates ≤ 16 → (d : Pass)
    → get_or (passes_of roster seen) j d ≡ pass_at roster seen j
unfolding passes_of
passes_at roster seen j l few d =
    get_or-sweep (pass_at roster seen) roster.aggregates (replicate 16 no_pass) d j l (rw (length-replicate 16 no_pass) few)

pub pass-at-members : (roster : Roster) (seen : List (Option View)) (sight : ℕ → Sight) → roster_sound roster ≡ true
    → ((i : ℕ) → i < roster.units → seen_at seen i ≡ view_of (sight i))
    → (j : ℕ) → j < roster.aggregates → pass_at roster seen j ≡ pass_over (map sight (stretch_of roster j))
unfolding members_seen
pass-at-members roster seen sight sound alike j l =
    ap pass_from
    (map_same (seen_at seen) (λ u. view_of (sight u)) (stretch_of roster j) (λ u m. alike u (member-inside roster sound j l u m))
    ∙ sym (map-map view_of sight (stretch_of roster j)))
    ∙ pass_of (map sight (stretch_of roster j))

-- which is what the passes promise of the members
pub passes-over : (roster : Roster) (seen : List (Option View)) → Seen roster seen → {passes : List Pass} → passes ≡ passes_of roster seen
    → PassesOver roster seen passes
passes-over roster seen known e =
    record {
      over = λ sight alike j l.
          rw e
          (passes_at roster seen j l (sound-aggregates roster known.sound) no_pass
          ∙ pass-at-members roster seen sight known.sound alike j l);
    }

-- one member's turn, but for what it adds
pub ruleset along = (along-none, along-few, along-small, place-in, member-small, wider)
