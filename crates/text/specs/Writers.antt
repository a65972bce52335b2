-- A writer: a buffer that is lent, and the place of the next text in it.
use Rattle.std.specs.Prelude.{◌≡◌, List, ℕ}
use Rattle.text.specs.Puts.{Room, Put}
use Rattle.text.specs.declared.writer.Writer.{Writer}

-- the text fits behind the place
abbrev pub RoomFor : Writer → List ℕ → Type 0
RoomFor w text = Room w.out.now w.at text

-- what the buffer holds then, and the next place; the buffer is the same
pub record Writes (w : Writer) (text : List ℕ) (v : Writer) : Type 0 where
  pub same : v.out.ghost_name ≡ w.out.ghost_name
  pub put : Put w.out.now w.at text v.at v.out.now
