-- How large availability and rates are, a unit's own or sums over units.
use Rattle.std.specs.Prelude.{ℕ, ◌≤◌}
use Rattle.triggers.specs.declared.Capability.{Capability}

pub record SmallCapability (n : ℕ) (c : Capability) : Type 0 where
  pub availability : c.availability ≤ n
  pub up : c.up ≤ n
  pub down : c.down ≤ n
  pub least : c.least ≤ n
