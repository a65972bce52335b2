-- The tests of chains, by the numbers of the rules that they belong to (01, "Refused because of what was sent"; 02, 2026-01).
use Rattle.std.specs.Prelude.{◌≡◌, Bool, true, false, ◌&&◌, ◌||◌, not, List, ℕ, suc, ◌≤◌, leb, eqb, get_or, Option, None}
use Rattle.kinds.specs.declared.Kind.{Kind}
use Rattle.kinds.specs.Kinds.{is_semi_scheduled}
use Rattle.trace.specs.Sweeps.{every}
use Rattle.plants.specs.Rosters.{kinds_known, regions_known}
use Rattle.chains.specs.Chains.{all_members, times_in, chained_of}
use Rattle.chains.specs.declared.Chains.{Chains}

-- 5: next at most n, a head in 1 to n

abbrev pub next_in : ℕ → ℕ → Bool
next_in units next = leb next units

abbrev pub next_at : ℕ → List ℕ → ℕ → Bool
next_at units next i = next_in units (get_or next i 0)

abbrev pub head_in : ℕ → ℕ → Bool
head_in units head = leb 1 head && leb head units

abbrev pub head_at : ℕ → List ℕ → ℕ → Bool
head_at units heads j = head_in units (get_or heads j 0)

unfoldable pub indices_in : Chains → Bool
indices_in c = every (next_at c.units c.next) c.units && every (head_at c.units c.heads) c.aggregates

-- 6: no unit is met twice, by one chain or by several
abbrev pub once_at : List ℕ → ℕ → Bool
once_at members i = leb (times_in (suc i) members) 1

unfoldable pub met_once : Chains → Bool
met_once c = every (once_at (all_members c)) c.units

-- 7: a unit that no chain met has next 0
abbrev pub ends_at : List Bool → List ℕ → ℕ → Bool
ends_at chained next i = get_or chained i false || eqb (get_or next i 0) 0

unfoldable pub rest_ends : Chains → Bool
rest_ends c = every (ends_at (chained_of c) c.next) c.units

-- 30: "kind 4 in a chain": a unit that a chain met is scheduled, and not semi-scheduled
abbrev pub scheduled_at : List Bool → List (Option Kind) → ℕ → Bool
scheduled_at chained kinds i = not (get_or chained i false && is_semi_scheduled (get_or kinds i None))

unfoldable pub members_scheduled : Chains → Bool
members_scheduled c = every (scheduled_at (chained_of c) c.kinds) c.units

-- what a register's counts and fields are tested for before its chains: at least one unit, and every kind and region known
pub record Known (c : Chains) : Type 0 where
  pub least : 1 ≤ c.units
  pub kinds : kinds_known c.kinds c.units ≡ true
  pub regions : regions_known c.regions c.units ≡ true

-- counts and indices in range, so that the chains can be followed
pub record Walkable (c : Chains) : Type 0 where
  pub units : c.units ≤ 64
  pub aggregates : c.aggregates ≤ 16
  pub inside : indices_in c ≡ true
