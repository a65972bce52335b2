-- Facts on triggers, shared by units and aggregates. Assumes nothing.
use Prim.Native.Nat.{ℕ, ◌≤◌}
use native.Mathlib.Omega.{arith}
use Rattle.triggers.specs.Triggers.{trigger_of, small_trigger, large_trigger}

-- the large trigger is never below the small one
pub small-le-large : (availability rate : ℕ) → small_trigger availability rate ≤ large_trigger availability rate
unfolding trigger_of
small-le-large availability rate = omega arith

pub at_least : (share ramping availability rate : ℕ) → 600000 ≤ trigger_of share ramping availability rate
unfolding trigger_of
at_least share ramping availability rate = omega arith

pub small-bounded : (availability rate : ℕ) → availability ≤ 130000000 → small_trigger availability rate ≤ 390000000
unfolding trigger_of
small-bounded availability rate h = omega arith
