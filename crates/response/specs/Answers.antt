-- What a day is answered (02, 2026-04: "Refusal 31: not 288 records. Refusal 32: a value beyond its bound. In that order"), and a file
-- that holds one.
use Rattle.std.specs.Prelude.{◌≡◌, ◌↔◌, Bool, cond, not, List, [], ◌∷◌, ℕ, ltb, length, drop, Result, Err}
use Rattle.trace.specs.Refusals.{first_refusal, first_of, answered_by, result_number}
use Rattle.wire.specs.Fields.{word_at}
use Rattle.records.specs.Records.{is_whole, day_bounded}
use Rattle.response.specs.Days.{day_of}
use Rattle.response.specs.Values.{values_of, no_values, Values, WithinBounds}
use Rattle.response.specs.declared.Day.{Day}
use Rattle.response.specs.declared.DayRefusal.{DayRefusal}
use Rattle.response.specs.declared.DayRefusal.TheVariants.{Size, Bounds}

-- the number of the first refusal that applies, 0 where none does
unfoldable pub day_refusal : ℕ → List ℕ → ℕ
day_refusal earlier records = first_refusal ((31, not (is_whole records)) ∷ (32, not (day_bounded earlier records)) ∷ [])

-- the day, or the first refusal that applies
unfoldable pub answer_of : ℕ → List ℕ → Result Day DayRefusal
answer_of earlier records =
    answered_by (first_of ((Size, not (is_whole records)) ∷ (Bounds, not (day_bounded earlier records)) ∷ [])) (day_of earlier records)

-- a refusal's number in 02
unfoldable pub day_refusal_number : DayRefusal → ℕ
day_refusal_number Size = 31
day_refusal_number Bounds = 32

-- that of an answer, 0 where the day is assessed
abbrev pub answer_number : Result Day DayRefusal → ℕ
answer_number = result_number day_refusal_number

-- what a call promises: all of its answer, and its number in 02; and over the bytes, when it is refused and what its values are
pub record Answers (earlier : ℕ) (records : List ℕ) (expected : Result Day DayRefusal) (refusal : ℕ) (r : Result Day DayRefusal) : Type 0 where
  pub result : r ≡ expected
  pub number : answer_number r ≡ refusal
  pub size : (answer_number r ≡ 31) ↔ ¬ (length records ≡ 3456)
  pub accepted : (answer_number r ≡ 0) ↔ ((length records ≡ 3456) × WithinBounds earlier records)
  pub values : answer_number r ≡ 0 → Values earlier records (values_of r)
  pub zeros : ¬ (answer_number r ≡ 0) → values_of r ≡ no_values

-- ---- a file: the earlier target's 4 bytes, then the records. One of under 4 bytes has no records, so it is 31

abbrev pub is_short : List ℕ → Bool
is_short bytes = ltb (length bytes) 4

unfoldable pub file_refusal : List ℕ → ℕ
file_refusal bytes = cond (is_short bytes) 31 (day_refusal (word_at bytes 0) (drop 4 bytes))

unfoldable pub file_answer : List ℕ → Result Day DayRefusal
file_answer bytes = cond (is_short bytes) (Err Size) (answer_of (word_at bytes 0) (drop 4 bytes))
