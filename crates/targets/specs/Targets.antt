-- What is kept with an aggregate (02, 2026-07): "the signed MWB sum and the two regulation sums .., together with whether every member has
-- a kept line". Kept lines are a function of the unit's place, its number less one, so that the state and a history are read alike.
use Rattle.std.specs.Prelude.{Bool, false, List, map, ℕ, ◌+◌, ℤ, pos, get_or, Option, None, is_some}
use Rattle.std.specs.Option.{option_map_or}
use Rattle.trace.specs.Lists.{selected, all_in, fold}
use Rattle.plants.specs.Plants.{Plant}
use Rattle.marks.specs.declared.Kept.{Kept}
use Rattle.aggregates.specs.Aggregates.{is_load, add_signed}
use Rattle.targets.specs.declared.Target.{Target}

-- a member: whether it is a load, and what is kept of it
pub record Member : Type 0 where
  pub load : Bool
  pub line : Option Kept

unfoldable pub member_at : Plant → (ℕ → Option Kept) → ℕ → Member
member_at plant kept i = record { load = is_load (get_or plant.kinds i None); line = kept i }

-- the members of aggregate j, counted from 0, in the order of its chain
unfoldable pub members_kept : Plant → (ℕ → Option Kept) → ℕ → List Member
members_kept plant kept j = map (member_at plant kept) (plant.members j)

abbrev pub has_line : Member → Bool
has_line v = is_some v.line

-- "those members that have a kept line"
abbrev pub with_lines : List Member → List Member
with_lines members = selected has_line members

-- one more on each sum: MWB is "signed", "loads subtracted" (01, "Triggers and errors"); FCR and FCL are added for every kind
abbrev pub add_target : ℤ → Member → ℤ
add_target sum v = option_map_or (λ k. add_signed v.load sum k.target) v.line sum

abbrev pub add_raise : ℕ → Member → ℕ
add_raise sum v = option_map_or (λ k. sum + k.raise) v.line sum

abbrev pub add_lower : ℕ → Member → ℕ
add_lower sum v = option_map_or (λ k. sum + k.lower) v.line sum

-- "the sums over those members that have a kept line, and the flag is true exactly when every member has one"
unfoldable pub target_over : List Member → Target
target_over members =
    record {
      target = fold add_target (pos 0) (with_lines members);
      raise = fold add_raise 0 (with_lines members);
      lower = fold add_lower 0 (with_lines members);
      complete = all_in has_line members;
    }

unfoldable pub target_of : Plant → (ℕ → Option Kept) → ℕ → Target
target_of plant kept j = target_over (members_kept plant kept j)

-- after a load: a chain has a member, and nothing is kept (`target-nothing` of `proofs/Lines.antt`)
abbrev pub no_target : Target
no_target = record { target = pos 0; raise = 0; lower = 0; complete = false }

-- the kept lines of a list, by place
abbrev pub kept_in : List (Option Kept) → ℕ → Option Kept
kept_in kept i = get_or kept i None
