-- What a load holds of the chains: "each aggregate's members as one stretch of a flat list in chain order, with a start and a count per
-- aggregate" (02, 2026-08).
use Rattle.std.specs.Prelude.{◌≡◌, Bool, List, ◌++◌, map, ℕ, suc, ◌+◌, ◌<◌, length, take, drop, replicate}
use Rattle.trace.specs.Sweeps.{sweep, records}
use Rattle.plants.specs.Plants.{place}
use Rattle.plants.specs.Rosters.{no_stretch, start_of, count_of, stretch_of, held}
use Rattle.plants.specs.declared.Roster.{Roster}
use Rattle.plants.specs.declared.Stretch.{Stretch}
use Rattle.chains.specs.Chains.{members_of, all_members, chained_of, point_regions, plant_of}
use Rattle.chains.specs.declared.Chains.{Chains}

-- a stretch starts where those of the aggregates before it end
unfoldable pub start_at : Chains → ℕ → ℕ
start_at c j = length (records (members_of c) j)

unfoldable pub count_at : Chains → ℕ → ℕ
count_at c j = length (members_of c j)

abbrev pub stretch_laid : Chains → ℕ → Stretch
stretch_laid c j = record { start = start_at c j; count = count_at c j }

-- the places of all members, with zeros past them
unfoldable pub flat_of : Chains → List ℕ
flat_of c = map place (all_members c) ++ drop (length (all_members c)) (replicate 64 0)

-- the chains' own counts, lengths, kinds and regions, beside who stands in a chain and where
abbrev pub roster_with : Chains → List Bool → List ℕ → List Stretch → Roster
roster_with c chained members stretches =
    record {
      units = c.units;
      aggregates = c.aggregates;
      small = c.small;
      large = c.large;
      kinds = c.kinds;
      chained = chained;
      regions = point_regions c;
      members = members;
      stretches = stretches;
    }

unfoldable pub roster_of : Chains → Roster
roster_of c = roster_with c (chained_of c) (flat_of c) (sweep (stretch_laid c) c.aggregates (replicate 16 no_stretch))

-- "The list must equal the chains it came from"
pub record SideBySide (c : Chains) (r : Roster) : Type 0 where
  -- each stretch is an aggregate's chain, its members by place
  pub stretches : (j : ℕ) → j < c.aggregates → stretch_of r j ≡ map place (members_of c j)
  -- the first one starts the list, each other follows the one before it, and together they cover the members of all chains
  pub first : 0 < c.aggregates → start_of r 0 ≡ 0
  pub follows : (j : ℕ) → suc j < c.aggregates → start_of r (suc j) ≡ start_of r j + count_of r j
  pub covers : take (length (all_members c)) r.members ≡ map place (all_members c)
  -- so the plant that is held is the one that the chains give
  pub plant : held r ≡ plant_of c
