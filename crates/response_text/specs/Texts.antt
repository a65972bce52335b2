-- What the program of a day prints: `D T FLAG UNDER OVER`, where FLAG is `none`, `under` or `over`; or `refused N`. 02 gives no format:
-- this is ours.
use Rattle.std.specs.Prelude.{List, ℕ, Option, Some, None, Result, Ok, Err}
use Rattle.text.specs.Numbers.{ascii}
use Rattle.text.specs.Lines.{day_line_of, refused_of}
use Rattle.response.specs.Answers.{day_refusal_number, file_answer}
use Rattle.response.specs.declared.Day.{Day}
use Rattle.response.specs.declared.DayRefusal.{DayRefusal}
use Rattle.records.specs.declared.Flag.{Flag}
use Rattle.records.specs.declared.Flag.TheVariants.{Under, Over}

abbrev pub flag_text : Option Flag → List ℕ
flag_text None = ascii "none"
flag_text (Some Under) = ascii "under"
flag_text (Some Over) = ascii "over"

unfoldable pub day_text : Day → List ℕ
day_text day = day_line_of day.response day.target (flag_text day.flag) day.under day.over

unfoldable pub answer_text : Result Day DayRefusal → List ℕ
answer_text (Ok day) = day_text day
answer_text (Err refusal) = refused_of (day_refusal_number refusal)

-- of the bytes of a file
unfoldable pub file_text : List ℕ → List ℕ
file_text bytes = answer_text (file_answer bytes)
