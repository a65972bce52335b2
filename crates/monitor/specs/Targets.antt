-- What is kept with the aggregates of a plant (02, 2026-07), in any one state.
use Rattle.std.specs.Prelude.{◌≡◌, ◌↔◌, true, List, map, ℕ, suc, ◌+◌, ◌*◌, ◌<◌, get_or, None, is_some}
use Rattle.wire.specs.Fields.{word_at, whole_at}
use Rattle.aggregates.specs.Aggregates.{is_load, no_sums, add_members, aggregate_basis}
use Rattle.targets.specs.Targets.{target_of}
use Rattle.targets.specs.Compared.{Compares, SumsOver}
use Rattle.plants.specs.Plants.{Plant, elem}
use Rattle.intervals.specs.Assessments.{line_at, sight_at}
use Rattle.intervals.specs.Monitors.{kept_at, target_at}
use Rattle.intervals.specs.declared.Monitor.{Monitor}
use Rattle.operators.specs.Operators.{ask, target}
use Rattle.monitor.specs.Calls.{interval, operate, reported, targeted, next, answer}

-- aggregate j, counted from 0, has the point n + j + 1
abbrev pub point_of : Plant → ℕ → ℕ
point_of plant j = suc (plant.units + j)

pub record OwnTargets (plant : Plant) (m : Monitor) : Type 0 where
  -- "the stored sums equal the sums over those members that have a kept line"
  pub sums : (j : ℕ) → j < plant.aggregates → target_at m j ≡ target_of plant (kept_at m) j
  -- "and the flag is true exactly when every member has one"
  pub exactly : (j : ℕ) → j < plant.aggregates
      → ((target_at m j).complete ≡ true) ↔ ((u : ℕ) → elem u (plant.members j) ≡ true → is_some (kept_at m u) ≡ true)
  -- "A new call on the aggregate's point returns them"
  pub told : (j : ℕ) → j < plant.aggregates → answer m (operate (ask target) (point_of plant j)) ≡ targeted (target_at m j)
  -- The same without `target_of`, by what the next interval compares with: where the kept lines count and every member's line of the buffer is
  -- readable, the target, up and down of the aggregate's error are the stored sums. It is so too where a member has nothing kept, which adds
  -- to neither, though the mark is BLANK then
  pub compared : (j : ℕ) → j < plant.aggregates → (buffer : List ℕ)
      → ((u : ℕ) → elem u (plant.members j) ≡ true → is_some (line_at plant buffer u) ≡ true)
      → Compares (aggregate_basis (add_members no_sums (map (sight_at plant buffer true (kept_at m)) (plant.members j)))) (target_at m j)
  -- The same by bytes: after an accepted interval in which every member's line is readable the stored sums are those of "4 MWB", "loads
  -- subtracted", and of "12 FCR and 16 FCL" in the members' lines, and the flag is true
  pub sent : (buffer report told : List ℕ) → answer m (interval buffer report) ≡ reported told
      → (j : ℕ) → j < plant.aggregates
      → ((u : ℕ) → elem u (plant.members j) ≡ true → is_some (line_at plant buffer u) ≡ true)
      → SumsOver (λ u. is_load (get_or plant.kinds u None))
      (λ u. whole_at buffer (8 + 40 * u + 4))
      (λ u. word_at buffer (8 + 40 * u + 12))
      (λ u. word_at buffer (8 + 40 * u + 16))
      (plant.members j)
      (target_at (next m (interval buffer report)) j)
