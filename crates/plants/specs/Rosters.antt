-- A plant as a monitor holds it, "each aggregate's members as one stretch of a flat list in chain order, with a start and a count per
-- aggregate" (02, 2026-08), and the test that it passes whoever made it. That it is the plant of the register's chains is promised by `load`.
use Rattle.std.specs.Prelude.{Bool, false, ◌&&◌, List, [], ◌∷◌, ℕ, zero, suc, ◌+◌, leb, ltb, get_or, replicate, Option, None}
use Rattle.std.specs.Option.{is_some}
use Rattle.kinds.specs.declared.Kind.{Kind}
use Rattle.trace.specs.Sweeps.{every}
use Rattle.plants.specs.Plants.{Plant}
use Rattle.plants.specs.declared.Lengths.{Lengths}
use Rattle.plants.specs.declared.Roster.{Roster}
use Rattle.plants.specs.declared.Stretch.{Stretch}

-- past the aggregates
abbrev pub no_stretch : Stretch
no_stretch = record { start = 0; count = 0 }

abbrev pub stretch_at : List Stretch → ℕ → Stretch
stretch_at stretches j = get_or stretches j no_stretch

abbrev pub start_of : Roster → ℕ → ℕ
start_of r j = (stretch_at r.stretches j).start

abbrev pub count_of : Roster → ℕ → ℕ
count_of r j = (stretch_at r.stretches j).count

-- so many entries of a list, from a place on
unfoldable pub entries : List ℕ → ℕ → ℕ → List ℕ
entries xs start zero = []
entries xs start (suc count) = get_or xs start 0 ∷ entries xs (start + 1) count

-- the stretch of aggregate j
unfoldable pub stretch_of : Roster → ℕ → List ℕ
stretch_of r j = entries r.members (start_of r j) (count_of r j)

-- the plant that it holds
abbrev pub held : Roster → Plant
held r =
    record {
      units = r.units;
      aggregates = r.aggregates;
      small = r.small;
      large = r.large;
      kinds = r.kinds;
      chained = r.chained;
      regions = r.regions;
      members = stretch_of r;
    }

-- zeros alone
abbrev no_lengths : Lengths
no_lengths = record { not_responding = 0; pending = 0; declaration = 0 }

unfoldable pub no_roster : Roster
no_roster =
    record {
      units = 0;
      aggregates = 0;
      small = no_lengths;
      large = no_lengths;
      kinds = replicate 64 None;
      chained = replicate 64 false;
      regions = replicate 80 0;
      members = replicate 64 0;
      stretches = replicate 16 no_stretch;
    }

-- ---- the test

-- 1 to 64 units, at most 16 aggregates, which is register refusal 2 too
abbrev pub counts_in : ℕ → ℕ → Bool
counts_in units aggregates = (leb 1 units && leb units 64) && leb aggregates 16

-- kinds 1 to 4, which is part of register refusal 4 too
abbrev pub kind_at : List (Option Kind) → ℕ → Bool
kind_at kinds i = is_some (get_or kinds i None)

unfoldable pub kinds_known : List (Option Kind) → ℕ → Bool
kinds_known kinds units = every (kind_at kinds) units

-- regions 0 to 4, which is part of register refusal 4 too
abbrev pub is_region : ℕ → Bool
is_region region = leb region 4

abbrev pub is_region_at : List ℕ → ℕ → Bool
is_region_at regions i = is_region (get_or regions i 0)

unfoldable pub regions_known : List ℕ → ℕ → Bool
regions_known regions count = every (is_region_at regions) count

-- every entry of the list is the place of a unit
abbrev pub place_at : List ℕ → ℕ → ℕ → Bool
place_at members units k = ltb (get_or members k 0) units

unfoldable pub places_in : List ℕ → ℕ → Bool
places_in members units = every (place_at members units) 64

-- a stretch ends within the list
abbrev pub stretch_in : Stretch → Bool
stretch_in s = leb (s.start + s.count) 64

abbrev pub ends_at : List Stretch → ℕ → Bool
ends_at stretches j = stretch_in (stretch_at stretches j)

unfoldable pub stretches_in : List Stretch → ℕ → Bool
stretches_in stretches aggregates = every (ends_at stretches) aggregates

unfoldable pub roster_sound : Roster → Bool
roster_sound r =
    counts_in r.units r.aggregates
    && (kinds_known r.kinds r.units
    && (regions_known r.regions (r.units + r.aggregates)
    && (places_in r.members r.units && stretches_in r.stretches r.aggregates)))
