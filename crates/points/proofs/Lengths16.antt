-- A record's length, and its four parts written one behind another. Assumes nothing.
use mathlib.Core.Path.{◌≡◌, refl}
use mathlib.Core.List.{List, ◌++◌}
use Prim.Native.Nat.{ℕ, ◌+◌, ◌^◌, ◌≤◌, ◌<◌}
use native.Mathlib.Omega.{arith}
use lib.ListN.{length}
use lib.Signed.{mag}
use mir.Syntax.{w32}
use mir.Val.{to_z, of_z}
use Rattle.std.specs.Int.{to_le_bytes}
use Rattle.signed.proofs.Sizes.{held32}
use Rattle.wire.specs.Fields.{bytes_of, put_at}
use Rattle.wire.proofs.Laws.{le_bytes, put-put}
use Rattle.marks.specs.Hosts.{mark_number}
use Rattle.marks.specs.declared.Assessment.{Assessment}
use Rattle.points.specs.Records.{head_of, record_of}
use Rattle.points.specs.declared.Point.{Point}

pub length-record : (a : Assessment) (p : Point) → length (record_of a p) ≡ 16
unfolding record_of bytes_of
length-record a p = refl

-- the report after each of the four calls that write a record
pub parts : (s s₁ s₂ s₃ s₄ : List ℕ) (at mark : ℕ) (a : Assessment) (p : Point) → at + 16 ≤ length s
    → mag a.error < 2 ^ 31 → mag p.level < 2 ^ 31 → mark ≡ mark_number a.mark
    → s₁ ≡ put_at s at (head_of mark p)
    → s₂ ≡ put_at s₁ (at + 4) (to_le_bytes w32 (of_z w32 (to_z w32 (of_z w32 a.error))))
    → s₃ ≡ put_at s₂ (at + 8) (to_le_bytes w32 a.trigger)
    → s₄ ≡ put_at s₃ (at + 12) (to_le_bytes w32 (of_z w32 (to_z w32 (of_z w32 p.level))))
    → s₄ ≡ put_at s at (record_of a p)
unfolding record_of bytes_of
parts s s₁ s₂ s₃ s₄ at mark a p h e l m q₁ q₂ q₃ q₄ =
    let head = head_of (mark_number a.mark) p in
    let error = bytes_of 4 (of_z w32 a.error) in
    let trigger = bytes_of 4 a.trigger in
    rw (
      q₄,
      q₃,
      q₂,
      q₁,
      m,
      held32 a.error e,
      held32 p.level l,
      le_bytes (of_z w32 a.error),
      le_bytes a.trigger,
      le_bytes (of_z w32 p.level),
      put-put s at (at + 4) head error refl (omega arith),
      put-put s at (at + 8) (head ++ error) trigger refl (omega arith),
    )
    (put-put s at (at + 12) ((head ++ error) ++ trigger) _ refl (omega arith))
