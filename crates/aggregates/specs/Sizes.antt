-- How large sums over members are: each member adds at most 2,000,000, and an aggregate has at most 64 of them.
use Rattle.std.specs.Prelude.{ℕ, ◌≤◌, nat_abs}
use Rattle.triggers.specs.Bounds.{SmallCapability}
use Rattle.aggregates.specs.declared.Present.{Present}
use Rattle.aggregates.specs.declared.KeptSums.{KeptSums}
use Rattle.aggregates.specs.declared.Sums.{Sums}

pub record SmallPresent (n : ℕ) (s : Present) : Type 0 where
  pub target : nat_abs s.target ≤ n
  pub power : nat_abs s.power ≤ n

pub record SmallKeptSums (n : ℕ) (s : KeptSums) : Type 0 where
  pub target : nat_abs s.target ≤ n
  pub raise : nat_abs s.raise ≤ n
  pub lower : nat_abs s.lower ≤ n

pub record SmallSums (n : ℕ) (s : Sums) : Type 0 where
  pub present : SmallPresent n s.present
  pub kept : SmallKeptSums n s.kept
  pub supply : SmallCapability n s.supply
  pub loads : SmallCapability n s.loads
