-- The fields of a line: the text of each, and the most bytes that they take.
use Rattle.std.specs.Prelude.{List, [], ◌∷◌, ℕ, suc, ◌+◌, map, length}
use Rattle.text.specs.Numbers.{decimal_of, whole_of}
use Rattle.text.specs.Puts.{longest_number, longest_whole}
use Rattle.text.specs.declared.field.Field.{Field}
use Rattle.text.specs.declared.field.Field.TheVariants.{Words, U8, U32, U64, I32, I64}

abbrev pub field_text : Field → List ℕ
field_text (Words words) = words.now
field_text (U8 n) = decimal_of n
field_text (U32 n) = decimal_of n
field_text (U64 n) = decimal_of n
field_text (I32 z) = whole_of z
field_text (I64 z) = whole_of z

abbrev pub texts : List Field → List (List ℕ)
texts fields = map field_text fields

-- an i64 takes a sign and 19 digits
abbrev pub longest_field : Field → ℕ
longest_field (Words words) = length words.now
longest_field (U8 n) = 3
longest_field (U32 n) = 10
longest_field (U64 n) = longest_number
longest_field (I32 z) = longest_whole
longest_field (I64 z) = 20

-- a space before each field
abbrev pub longest_behind : List Field → ℕ
longest_behind [] = 0
longest_behind (field ∷ fields) = suc (longest_field field) + longest_behind fields

-- a space between the fields
abbrev pub longest_fields : List Field → ℕ
longest_fields [] = 0
longest_fields (field ∷ fields) = longest_field field + longest_behind fields

-- and the end of the line
abbrev pub longest_line_of : List Field → ℕ
longest_line_of fields = suc (longest_fields fields)
