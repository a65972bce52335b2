-- A step through a list of calls in a file: from the ledger and the bytes that were read to the next ledger, whether the run goes on, and
-- the text to write.
use Rattle.std.specs.Prelude.{true, false, List, [], ◌∷◌, ℕ, Result, Ok, Err}
use Rattle.turns.specs.Steps as turns
use Rattle.calendar.specs.declared.Date.{Date}
use Rattle.response.specs.Answers.{day_refusal_number, file_answer}
use Rattle.response.specs.declared.Day.{Day}
use Rattle.response.specs.declared.DayRefusal.{DayRefusal}
use Rattle.ledger.specs.Calls.{enter, reinstate, verdict_of, ledger_after, answered}
use Rattle.ledger.specs.declared.Ledger.{Ledger}
use Rattle.ledger_script.specs.Items.{Item, unreadable, days, reinstates, item_of}
use Rattle.ledger_script.specs.Texts.{refused_text, day_text, reinstate_text, error_text}

-- what a step comes to
abbrev pub Outcome : Type 0
Outcome = turns.Outcome Ledger

abbrev pub unread : Ledger → ℕ → Outcome
unread l at = record { state = l; more = false; text = error_text at }

-- a call that is answered
abbrev pub goes_on : Ledger → List ℕ → Outcome
goes_on l text = record { state = l; more = true; text = text }

-- a day that was assessed
abbrev pub made_day : Ledger → Date → Day → Outcome
made_day l date day =
    let r = answered l (enter date day) in
    let next = ledger_after l r in
    record { state = next; more = true; text = day_text day next.declared (verdict_of r) }

-- 31 and 32 go before 33 and 34, which 02 leaves open: a ledger takes a day result, so the day is assessed before there is anything to enter
abbrev pub made_file : Ledger → Date → Result Day DayRefusal → Outcome
made_file l date (Err refusal) = record { state = l; more = true; text = refused_text (day_refusal_number refusal) }
made_file l date (Ok day) = made_day l date day

abbrev pub made_reinstate : Ledger → Outcome
made_reinstate l =
    let r = answered l reinstate in
    record { state = ledger_after l r; more = true; text = reinstate_text (verdict_of r) }

abbrev pub made_by : Ledger → ℕ → Item → Outcome
made_by l at unreadable = unread l at
made_by l at (days date file) = made_file l date (file_answer file)
made_by l at reinstates = made_reinstate l

-- nothing was read at the end of the list; a call that cannot be read ends the run
unfoldable pub step_of : Ledger → ℕ → List ℕ → Outcome
step_of l at [] = record { state = l; more = false; text = [] }
step_of l at (byte ∷ bytes) = made_by l at (item_of (byte ∷ bytes))
