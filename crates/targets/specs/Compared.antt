-- An aggregate's own target, said a second time, without the words of Targets.antt: beside what an error is worked out from (01, "Triggers and
-- errors"), and as sums over what the members' lines say (02, 2026-07).
use Rattle.std.specs.Prelude.{◌≡◌, Bool, true, cond, List, ℕ, ℤ, pos, ◌+ℤ◌, ◌-ℤ◌, fold, sum_by}
use Rattle.marks.specs.declared.Basis.{Basis}
use Rattle.targets.specs.declared.Target.{Target}

-- "The error compares MW of this line with MWB, FCR and FCL kept", and "An aggregate adds the signed MWB, signed MW, FCR as up and FCL as
-- down of all members": the stored sums are the three that the error goes by
pub record Compares (basis : Basis) (t : Target) : Type 0 where
  pub target : basis.target ≡ t.target
  pub up : basis.up ≡ pos t.raise
  pub down : basis.down ≡ pos t.lower

-- "the signed MWB sum and the two regulation sums .. together with whether every member has a kept line": over members of which each has
-- one, by what its line says, "loads subtracted"
pub record SumsOver (load : ℕ → Bool) (mwb : ℕ → ℤ) (fcr fcl : ℕ → ℕ) (members : List ℕ) (t : Target) : Type 0 where
  pub target : t.target ≡ fold (λ (sum : ℤ) (u : ℕ). cond (load u) (sum -ℤ mwb u) (sum +ℤ mwb u)) (pos 0) members
  pub raise : t.raise ≡ sum_by fcr members
  pub lower : t.lower ≡ sum_by fcl members
  pub complete : t.complete ≡ true
