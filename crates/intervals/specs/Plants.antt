-- Points, units and groups (01, "The register": "Points are 1 to n for the units, n+1 to n+m for the aggregates. A group is an
-- aggregate with its members, or a unit in no chain"). In lists a point or a unit stands at its place, its number less one.
use Rattle.std.specs.Prelude.{Bool, false, cond, ◌&&◌, List, [], ◌∷◌, ℕ, zero, suc, ◌+◌, ◌-◌, eqb, ltb, get_or, None}
use Rattle.telemetry.specs.Ranges.{is_unidirectional}
use Rattle.plants.specs.Plants.{Plant, elem, region_of}

abbrev pub total : Plant → ℕ
total plant = plant.units + plant.aggregates

-- neither "point 0" nor "above n+m"
unfoldable pub named : Plant → ℕ → Bool
named plant zero = false
named plant (suc i) = ltb i (total plant)

-- the places of the units whose lines the point at a place is assessed from
unfoldable pub units_of : Plant → ℕ → List ℕ
units_of plant i = cond (ltb i plant.units) (i ∷ []) (plant.members (i - plant.units))

-- whether the point at a place is that of a unit of kind 1, 2 or 4, in a chain or in none; an aggregate's is not
unfoldable pub is_unidirectional_at : Plant → ℕ → Bool
is_unidirectional_at plant i = ltb i plant.units && is_unidirectional (get_or plant.kinds i None)

-- by place. Demand 3 speaks of a unit in no chain; what is said of `unit` holds of a member by itself too
pub data Group : Type 0 where
  unit : ℕ → Group
  aggregate : ℕ → Group

unfoldable pub unit_in : Plant → Group → ℕ → Bool
unit_in plant (unit u) x = eqb x u
unit_in plant (aggregate j) x = elem x (plant.members j)

unfoldable pub point_in : Plant → Group → ℕ → Bool
point_in plant (unit u) i = ltb i plant.units && eqb i u
point_in plant (aggregate j) i = cond (ltb i plant.units) (elem i (plant.members j)) (eqb i (plant.units + j))

-- the region of a group: its unit's own, or that of its aggregate's point
unfoldable pub group_region : Plant → Group → ℕ
group_region plant (unit u) = region_of plant u
group_region plant (aggregate j) = region_of plant (plant.units + j)
