-- What is printed for each call: its name, `accepted` and what it comes to, or `refused` and the number in 02.
use Rattle.std.specs.Prelude.{Bool, cond, List, [], ◌∷◌, ℕ, Some, None}
use Rattle.text.specs.Numbers.{ascii, decimal_of, whole_of}
use Rattle.text.specs.Lines.{line, numbered_of}
use Rattle.response.specs.declared.Day.{Day}
use Rattle.response_text.specs.Texts.{flag_text}
use Rattle.ledger.specs.Ledgers.{refusal_number}
use Rattle.ledger.specs.Calls.{Verdict}

-- `day accepted D T FLAG UNDER OVER DECLARED`, with the flag in words; DECLARED is 1 where the unit is declared after the call, else 0
abbrev pub accepted_of : Day → List ℕ → Bool → List ℕ
accepted_of day flag declared =
    line (
    ascii "day accepted"
    ∷ whole_of day.response
    ∷ decimal_of day.target
    ∷ flag
    ∷ decimal_of day.under
    ∷ decimal_of day.over
    ∷ decimal_of (cond declared 1 0)
    ∷ []
    )

unfoldable pub accepted_text : Day → Bool → List ℕ
accepted_text day declared = accepted_of day (flag_text day.flag) declared

-- `day refused N`
abbrev pub refused_text : ℕ → List ℕ
refused_text number = numbered_of (ascii "day refused") number

-- by what the call answers
abbrev pub day_text : Day → Bool → Verdict → List ℕ
day_text day declared None = accepted_text day declared
day_text day declared (Some refusal) = refused_text (refusal_number refusal)

-- `reinstate accepted`, or `reinstate refused N`, where N is 35
abbrev pub reinstate_text : Verdict → List ℕ
reinstate_text None = line (ascii "reinstate accepted" ∷ [])
reinstate_text (Some refusal) = numbered_of (ascii "reinstate refused") (refusal_number refusal)

-- a call that cannot be read, at this byte of the file
abbrev pub error_text : ℕ → List ℕ
error_text at = numbered_of (ascii "script error at byte") at
