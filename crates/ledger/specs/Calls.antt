-- Lists of calls: the first is given a ledger, every later one the ledger after the call before it, accepted or refused. Each step is by
-- the definitions that the calls' contracts cite.
use Rattle.std.specs.Prelude.{List, ℕ, Option, Some, None, Result, Ok, Err}
use Rattle.trace.specs.Lists.{fold, outcomes}
use Rattle.calendar.specs.declared.Date.{Date}
use Rattle.response.specs.declared.Day.{Day}
use Rattle.ledger.specs.Ledgers.{enter_of, reinstate_of, refusal_number}
use Rattle.ledger.specs.declared.Ledger.{Ledger}
use Rattle.ledger.specs.declared.LedgerRefusal.{LedgerRefusal}

pub data Call : Type 0 where
  enter : Date → Day → Call
  reinstate : Call

-- the refusal, None where the call is accepted; and its number in 02, 0 there
abbrev pub Verdict : Type 0
Verdict = Option LedgerRefusal

abbrev pub verdict_number : Verdict → ℕ
verdict_number None = 0
verdict_number (Some refusal) = refusal_number refusal

abbrev pub verdict_of : Result Ledger LedgerRefusal → Verdict
verdict_of (Ok new) = None
verdict_of (Err refusal) = Some refusal

-- a refused call leaves the ledger that it was given
abbrev pub ledger_after : Ledger → Result Ledger LedgerRefusal → Ledger
ledger_after l (Ok new) = new
ledger_after l (Err refusal) = l

abbrev pub answered : Ledger → Call → Result Ledger LedgerRefusal
answered l (enter date day) = enter_of l date day
answered l reinstate = reinstate_of l

abbrev pub next : Ledger → Call → Ledger
next l c = ledger_after l (answered l c)

abbrev pub answer : Ledger → Call → Verdict
answer l c = verdict_of (answered l c)

abbrev pub after : Ledger → List Call → Ledger
after = fold next

abbrev pub run : Ledger → List Call → List Verdict
run = outcomes next answer
