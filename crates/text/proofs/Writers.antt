-- Pieces that a writer puts one behind the other. Assumes nothing.
use mathlib.Core.Path.{refl, ◌∙◌}
use mathlib.Core.List.{List, [], ◌++◌}
use Prim.Native.Nat.{ℕ}
use Rattle.text.specs.Writers.{RoomFor, Writes}
use Rattle.text.specs.declared.writer.Writer.{Writer}
use Rattle.text.proofs.Puts as Puts

pub nothing : (w : Writer) → Writes w [] w
nothing w = record { same = refl; put = Puts.nothing w.out.now w.at }

module _ {w v : Writer} {xs : List ℕ} (first : Writes w xs v) where
  -- what is left of the room behind the first piece
  pub room-left : (ys : List ℕ) → RoomFor w (xs ++ ys) → RoomFor v ys
  room-left ys room = Puts.room-left first.put ys room

  -- both pieces
  pub then : {ys : List ℕ} {u : Writer} → RoomFor w (xs ++ ys) → Writes v ys u → Writes w (xs ++ ys) u
  then room second = record { same = second.same ∙ first.same; put = Puts.then first.put room second.put }
