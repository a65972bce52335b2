-- A call of a list in a file: a u32 tag, a u32 payload length and the payload, all little-endian.
use Rattle.std.specs.Prelude.{Bool, cond, ◌&&◌, List, ℕ, ◌+◌, leb, eqb, length}
use Rattle.wire.specs.Fields.{word_at}

-- the longest payload
abbrev pub longest_payload : ℕ
longest_payload = 8192

-- how many bytes of payload come after the first 8, as they say; none where those are not 8 or ask for too many
unfoldable pub wanted_by : List ℕ → ℕ
wanted_by head = cond (eqb (length head) 8 && leb (word_at head 4) longest_payload) (word_at head 4) 0

-- the bytes are a call: the payload has the length that the first 8 say, and is not too long
unfoldable pub is_frame : List ℕ → Bool
is_frame bytes = leb 8 (length bytes) && (leb (word_at bytes 4) longest_payload && eqb (length bytes) (8 + word_at bytes 4))
