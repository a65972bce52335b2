-- Text put into a buffer that is lent, from a place on.
use Rattle.std.specs.Prelude.{◌≡◌, Bool, cond, List, ℕ, ◌+◌, ◌*◌, ◌/◌, ◌≤◌, leb, length}
use Rattle.wire.specs.Fields.{put_at}

-- the text fits behind the place
pub record Room (out : List ℕ) (at : ℕ) (text : List ℕ) : Type 0 where
  pub fits : at + length text ≤ length out

-- what the buffer holds then, and the next place
pub record Put (before : List ℕ) (at : ℕ) (text : List ℕ) (next : ℕ) (after : List ℕ) : Type 0 where
  pub place : next ≡ at + length text
  pub bytes : after ≡ put_at before at text

-- A caller that has shown nothing of its buffer: with fewer than `room` bytes from the place on, nothing is put and the place stays.
abbrev pub has_room : ℕ → List ℕ → ℕ → Bool
has_room room out at = leb (at + room) (length out)

pub record PutWithin (room : ℕ) (before : List ℕ) (at : ℕ) (text : List ℕ) (next : ℕ) (after : List ℕ) : Type 0 where
  pub place : next ≡ cond (has_room room before at) (at + length text) at
  pub bytes : after ≡ cond (has_room room before at) (put_at before at text) before

-- the greatest usize, and no buffer is that long
abbrev pub most : ℕ
most = 18446744073709551615

-- the longest number (u64), and the longest whole number (i32: a sign and ten digits)
abbrev pub longest_number : ℕ
longest_number = 20

abbrev pub longest_whole : ℕ
longest_whole = 11

-- behind the words: a space, the number and the end of the line; or two spaces, twice ten digits and the end; or four spaces, three
-- bytes, a whole number and the end; or four spaces, a whole number, twice ten digits, a byte and the end
abbrev pub longest_numbered : List ℕ → ℕ
longest_numbered words = length words + 22

abbrev pub longest_spanned : List ℕ → ℕ
longest_spanned words = length words + 23

abbrev pub longest_standing : List ℕ → ℕ
longest_standing words = length words + 25

abbrev pub longest_target : List ℕ → ℕ
longest_target words = length words + 39

-- round the words: a sign and 19 digits, three times ten digits and four spaces
abbrev pub longest_day : List ℕ → ℕ
longest_day flag = length flag + 54

-- a point's line: ten digits, twenty, four times three, eleven, ten and eleven, eight spaces and its end
abbrev pub longest_line : ℕ
longest_line = 83

abbrev pub longest_lines : List ℕ → ℕ
longest_lines report = longest_line * (length report / 16)
