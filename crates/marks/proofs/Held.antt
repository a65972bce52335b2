-- Signed numbers as locals hold them: their bits, read again. Assumes nothing.
use mathlib.Core.Path.{◌≡◌}
use Prim.Native.Nat.{ℕ, ◌≤◌, ◌<◌, ◌^◌}
use mir.Syntax.{w64}
use mir.Val.{to_z, of_z}
use lib.Dec.{lit<}
use lib.IntN.{ℤ, nat_abs}
use Rattle.signed.proofs.Sizes.{held-size}
use Rattle.marks.specs.Bounds.{SmallBasis}
use Rattle.marks.specs.declared.Basis.{Basis}

-- the numbers of sums and bases, which are small
pub record Held (n : ℕ) (z : ℤ) : Type 0 where
  pub same : to_z w64 (of_z w64 z) ≡ z
  pub size : nat_abs (to_z w64 (of_z w64 z)) ≤ n

pub held : {n : ℕ} (z : ℤ) → nat_abs z ≤ n → n < 2 ^ 63 → Held n z
held z h l = record { same = held-size z h l; size = rw (held-size z h l) h }

pub held-basis : {b : Basis} → SmallBasis b
    → Held 130000000 b.power × Held 130000000 b.target × Held 130000000 b.up × Held 130000000 b.down
held-basis s =
    let room = lit< tt in
    (held _ s.power room, held _ s.target room, held _ s.up room, held _ s.down room)
