-- What holds of every list of calls, refused ones included, from the empty ledger on (02, 2026-05: "declared holds exactly when that rule
-- held at some day since the last accepted reinstatement, or since the start if there was none").
use Rattle.std.specs.Prelude.{◌≡◌, ◌↔◌, true, List, ◌∷◌, map, Some, None}
use Rattle.trace.specs.Lists.{outcomes, Since}
use Rattle.calendar.specs.Dates.{is_date}
use Rattle.calendar.specs.Ordinals.{ordinal_of}
use Rattle.calendar.specs.declared.Date.{Date}
use Rattle.response.specs.declared.Day.{Day}
use Rattle.ledger.specs.Days.{Conducts}
use Rattle.ledger.specs.Ledgers.{empty}
use Rattle.ledger.specs.Calls.{Call, enter, reinstate, verdict_number, next, answer, after, run}
use Rattle.ledger.specs.History.{entry_of, Held, held_at_some, History, begin, refusal, verdict, extend, history, Later, Descending}
use Rattle.ledger.specs.declared.Ledger.{Ledger}

-- a day that is accepted, and at which the rule holds of the days since reinstatement
pub data Declares (h : History) : Call → Type 0 where
  at_day : (date : Date) (day : Day) → verdict h (enter date day) ≡ None → Held (entry_of date day ∷ h.days) → Declares h (enter date day)

abbrev pub Reinstates : History → Call → Type 0
Reinstates h c = (c ≡ reinstate) × (verdict h c ≡ None)

-- "held at some day since the last accepted reinstatement, or since the start if there was none": the list splits into calls before, that
-- day, and later calls, none of which is an accepted reinstatement
abbrev pub Declared : List Call → Type 0
Declared calls = Since extend Declares Reinstates begin calls

-- "changes only the latest date"
abbrev pub with_latest : Ledger → Date → Ledger
with_latest l date = record l { latest = Some (ordinal_of date) }

pub record Promise (l : Ledger) : Type 0 where
  pub exactly : (calls : List Call) → ((after l calls).declared ≡ true) ↔ Declared calls
  -- the same by the history's own recursion, by which a reinstatement is accepted
  pub recursive : (calls : List Call) → (held_at_some (history calls).days ≡ true) ↔ Declared calls
  -- every acceptance and refusal is the one that the history gives, and so is its number
  pub bridge : (calls : List Call) → run l calls ≡ outcomes extend verdict begin calls
  pub numbers : (calls : List Call) → map verdict_number (run l calls) ≡ outcomes extend refusal begin calls
  -- a day is accepted exactly where there is such a date, later by year, month and day than the last accepted one
  pub acceptance : (calls : List Call) (date : Date) (day : Day)
      → (answer (after l calls) (enter date day) ≡ None) ↔ ((is_date date ≡ true) × Later date (history calls).latest)
  -- and the days since the last accepted reinstatement are in that order
  pub order : (calls : List Call) → Descending (history calls).days
  -- a reinstatement is accepted exactly where the unit is declared
  pub reinstatement : (calls : List Call) → (answer (after l calls) reinstate ≡ None) ↔ Declared calls
  -- what a day is, and "A day result with T = 0 is a day without dispatch and changes only the latest date"
  pub conduct : (day : Day) → Conducts day
  pub undispatched : (calls : List Call) (date : Date) (day : Day) → day.target ≡ 0 → answer (after l calls) (enter date day) ≡ None
      → next (after l calls) (enter date day) ≡ with_latest (after l calls) date

-- what the function that makes the empty ledger promises
pub record Begins (r : Ledger) : Type 0 where
  pub result : r ≡ empty
  pub lists : Promise r
