-- A plant, as the rules speak of it: they read nothing else of a register. Units stand at their place, their number less one; aggregates are
-- counted from 0.
use Rattle.std.specs.Prelude.{Bool, false, ◌||◌, List, [], ◌∷◌, ℕ, zero, suc, ◌+◌, eqb, get_or, Option}
use Rattle.std.specs.List.{list_all}
use Rattle.kinds.specs.declared.Kind.{Kind}
use Rattle.trace.specs.Sweeps.{every}
use Rattle.plants.specs.declared.Lengths.{Lengths}

pub record Plant : Type 0 where
  pub units : ℕ
  pub aggregates : ℕ
  pub small : Lengths
  pub large : Lengths
  -- of each unit, with none where the register's number is not listed, and whether it is a member of some aggregate
  pub kinds : List (Option Kind)
  pub chained : List Bool
  -- of each point, by place: a unit's own, and an aggregate's that of its members
  pub regions : List ℕ
  -- the places of an aggregate's members, in the order of its chain
  pub members : ℕ → List ℕ

abbrev pub place : ℕ → ℕ
place zero = zero
place (suc i) = i

abbrev pub elem : ℕ → List ℕ → Bool
elem x [] = false
elem x (y ∷ ys) = eqb x y || elem x ys

-- ---- regions (02, 2026-09)

-- of the point at a place
abbrev pub region_of : Plant → ℕ → ℕ
region_of plant i = get_or plant.regions i 0

-- "All members of a chain share a region": each has that of its aggregate's point
abbrev pub has_region : Plant → ℕ → ℕ → Bool
has_region plant region u = eqb (region_of plant u) region

unfoldable pub shares_region : Plant → ℕ → Bool
shares_region plant j = list_all (has_region plant (region_of plant (plant.units + j))) (plant.members j)

unfoldable pub regions_shared : Plant → Bool
regions_shared plant = every (shares_region plant) plant.aggregates
