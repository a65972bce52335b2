-- Lines of text (01, "The program": "prints a line a point: interval, point, then status, mark, small run, large run, error, trigger,
-- level, with one space between"; "A refusal prints `refused`, a space and its number").
use Rattle.std.specs.Prelude.{List, [], ◌∷◌, ◌++◌, ℕ, suc, ◌*◌, ◌/◌, ℤ, length, get_or, take, drop}
use Rattle.trace.specs.Sweeps.{records}
use Rattle.wire.specs.Fields.{word_at, whole_at}
use Rattle.text.specs.Numbers.{ascii, decimal_of, whole_of}

-- each field behind a space, and the end of the line
abbrev pub rest : List (List ℕ) → List ℕ
rest [] = 10 ∷ []
rest (field ∷ fields) = 32 ∷ (field ++ rest fields)

-- fields with one space between, and the end of the line
abbrev pub line : List (List ℕ) → List ℕ
line [] = 10 ∷ []
line (field ∷ fields) = field ++ rest fields

-- error (i32), trigger (u32) and level (i32) of a point, from its 16 bytes of the report
abbrev pub amounts_of : List ℕ → List (List ℕ)
amounts_of r = whole_of (whole_at r 4) ∷ decimal_of (word_at r 8) ∷ whole_of (whole_at r 12) ∷ []

-- a point's line, from its 16 bytes of the report: status, mark, small run and large run, a byte each, error (i32), trigger (u32),
-- level (i32)
unfoldable pub line_of : ℕ → ℕ → List ℕ → List ℕ
line_of interval point r =
    line (
    decimal_of interval
    ∷ decimal_of point
    ∷ decimal_of (get_or r 0 0)
    ∷ decimal_of (get_or r 1 0)
    ∷ decimal_of (get_or r 2 0)
    ∷ decimal_of (get_or r 3 0)
    ∷ amounts_of r
    )

-- all lines of a report: points are numbered from 1
abbrev pub line_at : ℕ → List ℕ → ℕ → List ℕ
line_at interval report i = line_of interval (suc i) (take 16 (drop (16 * i) report))

unfoldable pub lines_of : ℕ → List ℕ → List ℕ
lines_of interval report = records (line_at interval report) (length report / 16)

-- words and a number
abbrev pub numbered_of : List ℕ → ℕ → List ℕ
numbered_of words number = line (words ∷ decimal_of number ∷ [])

abbrev pub refused_of : ℕ → List ℕ
refused_of number = numbered_of (ascii "refused") number

-- words, and the numbers of a first and a last interval
abbrev pub spanned_of : List ℕ → ℕ → ℕ → List ℕ
spanned_of words first last = line (words ∷ decimal_of first ∷ decimal_of last ∷ [])

-- words, and a point's status, runs and level
abbrev pub standing_of : List ℕ → ℕ → ℕ → ℕ → ℤ → List ℕ
standing_of words status small large level =
    line (words ∷ decimal_of status ∷ decimal_of small ∷ decimal_of large ∷ whole_of level ∷ [])

-- words, and what is kept with an aggregate: a signed target, regulation up and down, and a flag
abbrev pub target_line_of : List ℕ → ℤ → ℕ → ℕ → ℕ → List ℕ
target_line_of words target raise lower kept =
    line (words ∷ whole_of target ∷ decimal_of raise ∷ decimal_of lower ∷ decimal_of kept ∷ [])

-- fields with one space between, and no end
abbrev pub behind : List (List ℕ) → List ℕ
behind [] = []
behind (field ∷ fields) = 32 ∷ (field ++ behind fields)

abbrev pub joined : List (List ℕ) → List ℕ
joined [] = []
joined (field ∷ fields) = field ++ behind fields

-- the values of a day of wholesale demand response
abbrev pub day_values_of : ℤ → ℕ → List ℕ → ℕ → ℕ → List ℕ
day_values_of response target flag under over =
    joined (whole_of response ∷ decimal_of target ∷ flag ∷ decimal_of under ∷ decimal_of over ∷ [])

-- its line: `D T FLAG UNDER OVER`
abbrev pub day_line_of : ℤ → ℕ → List ℕ → ℕ → ℕ → List ℕ
day_line_of response target flag under over =
    line (whole_of response ∷ decimal_of target ∷ flag ∷ decimal_of under ∷ decimal_of over ∷ [])
