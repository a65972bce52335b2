-- A load in the rules' numbers: kind 2. Assumes nothing.
use mathlib.Core.Path.{◌≡◌, refl, sym}
use Prim.Native.Nat.{ℕ}
use native.Mathlib.Omega.{arith}
use lib.Dec.{eqb}
use Rattle.std.proofs.lemmas.Bool.{ne_eqb}
use Rattle.kinds.specs.Kinds.{kind_of}
use Rattle.kinds.proofs.Numbers.{by_number}
use Rattle.aggregates.specs.Aggregates.{is_load}

pub load-number : (n : ℕ) → is_load (kind_of n) ≡ eqb n 2
load-number = by_number (λ n kind. is_load kind ≡ eqb n 2) refl refl refl refl refl (λ n h. sym (ne_eqb n 2 (λ e. omega arith)))
