-- Whether an aggregate's members have its region, one member at a time. Assumes nothing.
use mathlib.Core.Path.{◌≡◌, refl}
use mathlib.Core.Bool.{Bool, true, false}
use mathlib.Core.List.{List}
use Prim.Native.Nat.{ℕ, ◌+◌, ◌≤◌, ◌<◌}
use native.Mathlib.Omega.{arith}
use borrow.Author.Tests.{eq-eqb, ne_eqb}
use lib.Dec.{eqb}
use lib.ListN.{length, get_or}
use Rattle.std.proofs.Common.{add-one}
use Rattle.trace.specs.Sweeps.{every}
use Rattle.trace.proofs.Sweeps.{every_list, every-fails}
use Rattle.plants.specs.Plants.{has_region, shares_region}
use Rattle.plants.specs.Rosters.{stretch_of, held, roster_sound}
use Rattle.plants.specs.declared.Roster.{Roster}
use Rattle.plants.proofs.Soundness.{sound-units}
use Rattle.plants.proofs.Stretches.{stretch-at}

-- whether the member at an index of the stretch has it
abbrev member_has : Roster → ℕ → List ℕ → ℕ → Bool
member_has r region places i = eqb (get_or r.regions (get_or places i 0) 0) region

-- the members so far have it
pub record Shared (r : Roster) (aggregate region : ℕ) (places : List ℕ) (k : ℕ) : Type 0 where
  pub stretch : places ≡ stretch_of r aggregate
  pub own : region ≡ get_or r.regions (r.units + aggregate) 0
  pub most : k ≤ length places
  pub all : every (member_has r region places) k ≡ true

module _ {r : Roster} {aggregate region : ℕ} {places : List ℕ} where
  pub shared-none : places ≡ stretch_of r aggregate → region ≡ get_or r.regions (r.units + aggregate) 0 → Shared r aggregate region places 0
  unfolding every
  shared-none p e = record { stretch = p; own = e; most = omega arith; all = refl }

  module _ {k : ℕ} (s : Shared r aggregate region places k) where
    by-index : shares_region (held r) aggregate ≡ every (member_has r region places) (length places)
    unfolding shares_region
    by-index =
        rw (← s.stretch, ← s.own)
        (every_list (has_region (held r) region) (member_has r region places) places 0 (length places) refl (λ i l. refl))

    pub shared-more : k < length places → get_or r.regions (get_or places k 0) 0 ≡ region → Shared r aggregate region places (k + 1)
    unfolding every
    shared-more l e = record { stretch = s.stretch; own = s.own; most = omega arith; all = rw add-one (rw (s.all, eq-eqb _ _ e)) }

    pub shared-fails : k < length places → (get_or r.regions (get_or places k 0) 0 ≡ region → ⊥) → false ≡ shares_region (held r) aggregate
    shared-fails l n = rw (by-index, every-fails (member_has r region places) (length places) k l (ne_eqb _ _ n)) refl

    pub shared-end : length places ≤ k → true ≡ shares_region (held r) aggregate
    shared-end h =
        let whole : length places ≡ k = let m = s.most in omega arith in rw (by-index, whole, s.all) refl

    -- and each of them is a unit
    pub shared-place : roster_sound r ≡ true → aggregate < r.aggregates → k < length places → get_or places k 0 < 80
    shared-place sound j l = omega (arith, stretch-at r sound aggregate j s.stretch k l, sound-units r sound)

-- what the loop along a stretch needs of them
pub ruleset shared = (shared-none, shared-more, shared-fails, shared-end, shared-place)
