-- What is seen of the units, in a list by place, as the sums take it, and the passes over every aggregate's stretch of the members. They
-- promise their answer for the members as they stand in this list, and where the list has the members' views, that it is the pass over the
-- members themselves (`PassesOver`).
use Rattle.std.specs.Prelude.{◌≡◌, true, cond, List, [], ◌∷◌, map, ℕ, suc, ◌<◌, get_or, replicate, Option, None, IfSome, is_some}
use Rattle.trace.specs.Sweeps.{sweep}
use Rattle.plants.specs.Rosters.{stretch_of, roster_sound}
use Rattle.plants.specs.declared.Roster.{Roster}
use Rattle.marks.specs.Assessments.{without}
use Rattle.marks.specs.declared.Mark.TheVariants.{Off}
use Rattle.marks.specs.declared.Sight.{Sight}
use Rattle.aggregates.specs.Aggregates.{no_sums, sums_assessment}
use Rattle.aggregates.specs.Views.{view_of, add_views, SmallView}
use Rattle.aggregates.specs.declared.View.{View}
use Rattle.passes.specs.Passes.{pass_over}
use Rattle.passes.specs.declared.Pass.{Pass}

-- nothing stands past a list's end in the checker's account of an array: no index is ever there
unfoldable pub seen_at : List (Option View) → ℕ → Option View
seen_at seen i = get_or seen i None

-- the members of aggregate j, counted from 0, as they are seen, in the order of its chain
unfoldable pub members_seen : Roster → List (Option View) → ℕ → List (Option View)
members_seen roster seen j = map (seen_at seen) (stretch_of roster j)

-- indices in range, and small numbers in what is seen
pub record Seen (roster : Roster) (seen : List (Option View)) : Type 0 where
  pub sound : roster_sound roster ≡ true
  pub small : (i : ℕ) → i < roster.units → IfSome (seen_at seen i) (λ view. SmallView view)

-- `looked_at` and `pass_over`, by what is seen
unfoldable pub looked_in : List (Option View) → ℕ
looked_in [] = 0
looked_in (v ∷ vs) = cond (is_some v) (suc (looked_in vs)) 1

unfoldable pub pass_from : List (Option View) → Pass
pass_from views = record { assessment = sums_assessment (add_views no_sums views); looked = looked_in views }

abbrev pub no_pass : Pass
no_pass = record { assessment = without Off; looked = 0 }

abbrev pub pass_at : Roster → List (Option View) → ℕ → Pass
pass_at roster seen j = pass_from (members_seen roster seen j)

-- of each aggregate, and `no_pass` past the last
unfoldable pub passes_of : Roster → List (Option View) → List Pass
passes_of roster seen = sweep (pass_at roster seen) roster.aggregates (replicate 16 no_pass)

-- Of units whose views stand in the list, each aggregate's pass is the one over its members, in the order of its chain, mark and count:
-- "It returns how many members it looked at: the first unreadable one's place in the chain, or the length of the chain if there is none"
-- (02, 2026-03).
pub record PassesOver (roster : Roster) (seen : List (Option View)) (passes : List Pass) : Type 0 where
  pub over : (sight : ℕ → Sight) → ((i : ℕ) → i < roster.units → seen_at seen i ≡ view_of (sight i))
      → (j : ℕ) → j < roster.aggregates → get_or passes j no_pass ≡ pass_over (map sight (stretch_of roster j))
