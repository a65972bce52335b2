-- The region of each point: a unit's own, and for an aggregate that of its first member. Assumes nothing.
use mathlib.Core.Path.{◌≡◌, ◌∙◌}
use mathlib.Core.Logic.{◌⊎◌, inl, inr, ⊎_elim}
use mathlib.Core.Bool.{true, cond}
use Prim.Native.Nat.{ℕ, zero, suc, ◌+◌, ◌-◌, ◌≤◌, ◌<◌}
use native.Mathlib.Omega.{arith}
use borrow.Author.Tests.{leb-true, le-leb, lt-ltb, le-ltb}
use lib.Dec.{ltb}
use lib.ListN.{get_or, replicate, length-replicate}
use Rattle.std.proofs.lemmas.Bool.{cases_lt}
use Rattle.trace.proofs.Sweeps.{every-at, every-all, get_or-sweep, get_or-sweep-past, replicate-same}
use Rattle.plants.specs.Plants.{place, region_of}
use Rattle.plants.specs.Rosters.{is_region_at, regions_known}
use Rattle.chains.specs.declared.Chains.{Chains}
use Rattle.chains.specs.Chains.{region_at, point_regions, plant_of}
use Rattle.chains.specs.Rules.{Walkable}
use Rattle.chains.proofs.Indices.{head-least, head-inside}

pub place_less : (unit : ℕ) → 1 ≤ unit → place unit ≡ unit - 1
place_less zero h = absurd (omega arith)
place_less (suc i) h = omega arith

module _ (c : Chains) (walkable : Walkable c) (i : ℕ) where
  abbrev points : ℕ
  points = c.units + c.aggregates

  -- what the code reads for a unit, and for an aggregate
  pub read-unit : i < c.units → get_or c.regions i 0 ≡ cond (ltb i points) (region_at c i) 0
  unfolding region_at
  read-unit l = rw (lt-ltb i points (omega arith), lt-ltb i c.units l)

  module _ (past : c.units ≤ i) (l : i < points) where
    abbrev head : ℕ
    head = get_or c.heads (i - c.units) 0

    pub read-least : 1 ≤ head
    read-least = head-least c walkable.inside (i - c.units) (omega arith)

    pub read-inside : head - 1 < c.units
    read-inside = omega (arith, read-least, head-inside c walkable.inside (i - c.units) (omega arith))

    pub read-aggregate : get_or c.regions (head - 1) 0 ≡ cond (ltb i points) (region_at c i) 0
    unfolding region_at
    read-aggregate = rw (lt-ltb i points l, le-ltb i c.units past, place_less head read-least)

-- what the code needs of them
pub ruleset read = (read-unit, read-least, read-inside, read-aggregate)

-- ---- the plant that the chains give

module _ (c : Chains) (walkable : Walkable c) where
  region-at : (i : ℕ) → i < c.units + c.aggregates → region_of (plant_of c) i ≡ region_at c i
  unfolding plant_of point_regions
  region-at i l =
      get_or-sweep (region_at c) (c.units + c.aggregates) (replicate 80 0) 0 i l
      (omega (arith, length-replicate {A = ℕ} 80 0, walkable.units, walkable.aggregates))

  pub unit-region : (i : ℕ) → i < c.units → region_of (plant_of c) i ≡ get_or c.regions i 0
  unfolding region_at
  unit-region i l = let h : i < c.units + c.aggregates = omega arith in region-at i h ∙ rw (lt-ltb i c.units l)

  pub aggregate-region : (j : ℕ) → j < c.aggregates → region_of (plant_of c) ((plant_of c).units + j) ≡ get_or c.regions (place (get_or c.heads j 0)) 0
  unfolding plant_of region_at
  aggregate-region j l =
      let h : c.units + j < c.units + c.aggregates = omega arith in
      let same : c.units + j - c.units ≡ j = omega arith in
      region-at (c.units + j) h ∙ rw (le-ltb (c.units + j) c.units (omega arith), same)

  -- past the points it is 0
  pub no-region : (i : ℕ) → c.units + c.aggregates ≤ i → region_of (plant_of c) i ≡ 0
  unfolding plant_of point_regions
  no-region i l = get_or-sweep-past (region_at c) (c.units + c.aggregates) (replicate 80 0) 0 i l ∙ replicate-same 80 0 i

  -- each is a unit's, so it is known where those of the units are
  module _ (known : regions_known c.regions c.units ≡ true) where
    known-unit : (i : ℕ) → i < c.units → get_or c.regions i 0 ≤ 4
    unfolding regions_known
    known-unit i l = leb-true (get_or c.regions i 0) 4 (every-at (is_region_at c.regions) c.units known i l)

    known-point : (i : ℕ) → (i < c.units) ⊎ (c.units ≤ i) → i < c.units + c.aggregates → region_at c i ≤ 4
    unfolding region_at
    known-point i (inl u) l = rw (lt-ltb i c.units u) (known-unit i u)
    known-point i (inr u) l =
        let inside = read-inside c walkable i u l in
        rw (le-ltb i c.units u, place_less (get_or c.heads (i - c.units) 0) (read-least c walkable i u l))
        (known-unit (get_or c.heads (i - c.units) 0 - 1) inside)

    pub regions-few : (i : ℕ) → region_of (plant_of c) i ≤ 4
    regions-few i =
        ⊎_elim (λ l. rw (region-at i l) (known-point i (cases_lt i c.units) l)) (λ l. rw (no-region i l) (omega arith))
        (cases_lt i (c.units + c.aggregates))

    pub regions-laid : regions_known (point_regions c) (c.units + c.aggregates) ≡ true
    unfolding regions_known plant_of
    regions-laid = every-all (is_region_at (point_regions c)) (c.units + c.aggregates) (λ i l. le-leb (get_or (point_regions c) i 0) 4 (regions-few i))
