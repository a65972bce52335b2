-- An aggregate is the chain from its head through next; 0 ends it (01, "The register").
use Rattle.std.specs.Prelude.{Bool, false, cond, List, [], ◌∷◌, map, ℕ, zero, suc, ◌+◌, ◌-◌, leb, ltb, eqb, get_or, replicate}
use Rattle.trace.specs.Sweeps.{sweep, records}
use Rattle.plants.specs.Plants.{Plant, place}
use Rattle.chains.specs.declared.Chains.{Chains}

-- the units from `unit` through next, as far as so many steps go
unfoldable pub chain : List ℕ → ℕ → ℕ → List ℕ
chain next zero unit = []
chain next (suc steps) zero = []
chain next (suc steps) (suc i) = suc i ∷ chain next steps (get_or next i 0)

-- a chain that is followed to its end, as every chain of an accepted register is (`members-chain` of `register/proofs/Accepted.antt`)
pub data Chain (next : List ℕ) : ℕ → List ℕ → Type 0 where
  ended : Chain next 0 []
  through : {i : ℕ} {rest : List ℕ} → Chain next (get_or next i 0) rest → Chain next (suc i) (suc i ∷ rest)

-- the members of aggregate j, counted from 0. Of at most 64 units, 65 steps end the chain or meet one twice
unfoldable pub members_of : Chains → ℕ → List ℕ
members_of c j = chain c.next 65 (get_or c.heads j 0)

-- the members of all aggregates, one after another
unfoldable pub all_members : Chains → List ℕ
all_members c = records (members_of c) c.aggregates

unfoldable pub times_in : ℕ → List ℕ → ℕ
times_in unit [] = 0
times_in unit (x ∷ xs) = cond (eqb x unit) 1 0 + times_in unit xs

-- whether a chain met unit i + 1
unfoldable pub met_at : Chains → ℕ → Bool
met_at c i = leb 1 (times_in (suc i) (all_members c))

unfoldable pub chained_of : Chains → List Bool
chained_of c = sweep (met_at c) c.units (replicate 64 false)

-- their places, in the order of the chain
unfoldable pub places_of : Chains → ℕ → List ℕ
places_of c j = map place (members_of c j)

-- the place of the unit whose region the point at a place has: a unit's own, or an aggregate's first member, whose region each other one has
-- ("All members of a chain share a region", 02, 2026-09; refusal 37)
abbrev pub region_unit : Chains → ℕ → ℕ
region_unit c i = cond (ltb i c.units) i (place (get_or c.heads (i - c.units) 0))

unfoldable pub region_at : Chains → ℕ → ℕ
region_at c i = get_or c.regions (region_unit c i) 0

-- of each point, with zeros past them
unfoldable pub point_regions : Chains → List ℕ
point_regions c = sweep (region_at c) (c.units + c.aggregates) (replicate 80 0)

-- the plant that the chains give: what the rules say of a register is said of this one
unfoldable pub plant_of : Chains → Plant
plant_of c =
    record {
      units = c.units;
      aggregates = c.aggregates;
      small = c.small;
      large = c.large;
      kinds = c.kinds;
      chained = chained_of c;
      regions = point_regions c;
      members = places_of c;
    }
