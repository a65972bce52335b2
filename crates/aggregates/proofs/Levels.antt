-- What 02, 2026-02 says of an aggregate's level. Assumes nothing.
use mathlib.Core.Path.{◌≡◌, refl}
use Rattle.signed.specs.Floors.{floored}
use Rattle.marks.specs.Assessments.{judged}
use Rattle.aggregates.specs.Aggregates.{aggregate_basis}
use Rattle.aggregates.specs.declared.Sums.{Sums}

-- "Bidirectional units and aggregates keep the signed value"
pub aggregate-level : (s : Sums) → (judged (aggregate_basis s)).level ≡ s.present.power
unfolding judged aggregate_basis floored
aggregate-level s = refl
