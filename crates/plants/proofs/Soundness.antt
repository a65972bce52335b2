-- What a sound roster gives at each index. Assumes nothing.
use mathlib.Core.Path.{◌≡◌}
use mathlib.Core.Bool.{Bool, true, ◌&&◌}
use Prim.Native.Nat.{ℕ, ◌+◌, ◌≤◌, ◌<◌}
use borrow.Author.Tests.{leb-true, ltb-true, le-leb}
use lib.Dec.{leb}
use lib.ListN.{get_or}
use Rattle.trace.proofs.Sweeps.{every-at, sweep-none, sweep-more, sweep-end}
use Rattle.trace.proofs.Tests.{and_l, and_r}
use Rattle.plants.specs.declared.Roster.{Roster}
use Rattle.plants.specs.Rosters.{start_of, count_of, counts_in, kinds_known, is_region_at, regions_known, place_at, places_in, ends_at, stretches_in}
use Rattle.plants.specs.Rosters.{roster_sound}

-- ---- counts

module _ (units aggregates : ℕ) where
  pub counts-in : 1 ≤ units → units ≤ 64 → aggregates ≤ 16 → counts_in units aggregates ≡ true
  counts-in a b c = rw (le-leb 1 units a, le-leb units 64 b, le-leb aggregates 16 c)

  module _ (e : counts_in units aggregates ≡ true) where
    abbrev range : (leb 1 units && leb units 64) ≡ true
    range = and_l (leb 1 units && leb units 64) (leb aggregates 16) e

    pub counts-least : 1 ≤ units
    counts-least = leb-true 1 units (and_l (leb 1 units) (leb units 64) range)

    pub counts-units : units ≤ 64
    counts-units = leb-true units 64 (and_r (leb 1 units) (leb units 64) range)

    pub counts-aggregates : aggregates ≤ 16
    counts-aggregates = leb-true aggregates 16 (and_r (leb 1 units && leb units 64) (leb aggregates 16) e)

-- ---- a sound roster

pub sound-by : (r : Roster) → counts_in r.units r.aggregates ≡ true → kinds_known r.kinds r.units ≡ true
    → regions_known r.regions (r.units + r.aggregates) ≡ true
    → places_in r.members r.units ≡ true → stretches_in r.stretches r.aggregates ≡ true → roster_sound r ≡ true
unfolding roster_sound
sound-by r counts kinds regions places stretches = rw (counts, kinds, regions, places, stretches)

module _ (r : Roster) (sound : roster_sound r ≡ true) where
  abbrev counts : Bool
  counts = counts_in r.units r.aggregates

  abbrev kinds : Bool
  kinds = kinds_known r.kinds r.units

  abbrev regions : Bool
  regions = regions_known r.regions (r.units + r.aggregates)

  abbrev places : Bool
  places = places_in r.members r.units

  abbrev stretches : Bool
  stretches = stretches_in r.stretches r.aggregates

  pub sound-counts : counts_in r.units r.aggregates ≡ true
  unfolding roster_sound
  sound-counts = and_l counts (kinds && (regions && (places && stretches))) sound

  pub sound-units : r.units ≤ 64
  sound-units = counts-units r.units r.aggregates sound-counts

  pub sound-aggregates : r.aggregates ≤ 16
  sound-aggregates = counts-aggregates r.units r.aggregates sound-counts

  known : (regions && (places && stretches)) ≡ true
  unfolding roster_sound
  known = and_r kinds (regions && (places && stretches)) (and_r counts (kinds && (regions && (places && stretches))) sound)

  inside : (places && stretches) ≡ true
  inside = and_r regions (places && stretches) known

  pub region-inside : (i : ℕ) → i < r.units + r.aggregates → get_or r.regions i 0 ≤ 4
  unfolding regions_known
  region-inside i l = leb-true _ 4 (every-at (is_region_at r.regions) (r.units + r.aggregates) (and_l regions (places && stretches) known) i l)

  pub place_inside : (k : ℕ) → k < 64 → get_or r.members k 0 < r.units
  unfolding places_in
  place_inside k l = ltb-true _ _ (every-at (place_at r.members r.units) 64 (and_l places stretches inside) k l)

  pub stretch-inside : (j : ℕ) → j < r.aggregates → start_of r j + count_of r j ≤ 64
  unfolding stretches_in
  stretch-inside j l = leb-true _ _ (every-at (ends_at r.stretches) r.aggregates (and_r places stretches inside) j l)

-- what an index of a sound roster's lists is below, for the functions that go along them
pub ruleset in_bounds = (sound-units, sound-aggregates, stretch-inside)

-- and the region of one of its points
pub ruleset point_region = (sound-units, sound-aggregates, region-inside)

-- one value for each of its aggregates, written in turn
pub ruleset each_aggregate = (sound-aggregates, sweep-none, sweep-more, sweep-end)
