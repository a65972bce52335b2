-- How the code comes to an aggregate's target, one member at a time, and how large its numbers are. Nobody has to believe this file:
-- `proofs/Walks.antt` shows that it gives what Targets says.
use Rattle.std.specs.Prelude.{◌≡◌, Bool, true, false, List, ℕ, ◌+◌, ◌≤◌, ◌<◌, pos, nat_abs, Option, Some, None}
use Rattle.plants.specs.Rosters.{roster_sound}
use Rattle.plants.specs.declared.Roster.{Roster}
use Rattle.marks.specs.Bounds.{SmallKept}
use Rattle.marks.specs.declared.Kept.{Kept}
use Rattle.aggregates.specs.Aggregates.{add_signed}
use Rattle.targets.specs.declared.Target.{Target}
use Rattle.targets.specs.Targets.{kept_in}

-- before the first member
abbrev pub no_members : Target
no_members = record { target = pos 0; raise = 0; lower = 0; complete = true }

-- one more
unfoldable pub add_member : Target → Bool → Option Kept → Target
add_member t load (Some k) =
    record {
      target = add_signed load t.target k.target;
      raise = t.raise + k.raise;
      lower = t.lower + k.lower;
      complete = t.complete;
    }
add_member t load None = record { target = t.target; raise = t.raise; lower = t.lower; complete = false }

pub record SmallTarget (n : ℕ) (t : Target) : Type 0 where
  pub target : nat_abs t.target ≤ n
  pub raise : t.raise ≤ n
  pub lower : t.lower ≤ n

-- indices in range, and small numbers in the kept lines of the units
pub record Known (roster : Roster) (kept : List (Option Kept)) : Type 0 where
  pub sound : roster_sound roster ≡ true
  pub small : (i : ℕ) → i < roster.units → SmallKept (kept_in kept i)
