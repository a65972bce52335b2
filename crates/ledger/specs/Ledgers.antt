-- The ledger of one response unit: what it holds, and what each call makes of it and answers (02, 2026-05). It holds the ordinal of the
-- latest date, the latest two instances since reinstatement, and whether the unit is declared. Of an instance it holds what a third one will
-- be held to: the ordinal of the date three months later, and whether a conformant day has come since.
use Rattle.std.specs.Prelude.{◌≡◌, Bool, true, false, not, ◌&&◌, ◌||◌, [], ◌∷◌, ℕ, leb, Option, Some, None, Result}
use Rattle.std.specs.Option.{option_map}
use Rattle.trace.specs.Refusals.{first_refusal, first_of, answered_by, result_number}
use Rattle.calendar.specs.Dates.{is_date}
use Rattle.calendar.specs.Ordinals.{ordinal_of, window_of}
use Rattle.calendar.specs.declared.Date.{Date}
use Rattle.calendar.specs.declared.Window.{Window}
use Rattle.response.specs.declared.Day.{Day}
use Rattle.ledger.specs.Days.{conduct_of, is_instance}
use Rattle.ledger.specs.declared.Conduct.{Conduct}
use Rattle.ledger.specs.declared.Conduct.TheVariants.{Undispatched, Conformant, Nonconformant}
use Rattle.ledger.specs.declared.Instance.{Instance}
use Rattle.ledger.specs.declared.Instances.{Instances}
use Rattle.ledger.specs.declared.Ledger.{Ledger}
use Rattle.ledger.specs.declared.LedgerRefusal.{LedgerRefusal}
use Rattle.ledger.specs.declared.LedgerRefusal.TheVariants.{NoDate, NotLater, NotDeclared}

-- ---- instances

abbrev pub no_instances : Instances
no_instances = record { earlier = None; latest = None }

-- "an empty ledger .. (no date, no instance, not declared)"
abbrev pub empty : Ledger
empty = record { latest = None; instances = no_instances; declared = false }

-- after a conformant day
abbrev pub conformed : Instance → Instance
conformed i = record { end = i.end; conformed = true }

abbrev pub all_conformed : Instances → Instances
all_conformed s = record { earlier = option_map conformed s.earlier; latest = option_map conformed s.latest }

-- one more, whose three months end there; the latest two are kept
abbrev pub noted : Instances → Instance → Instances
noted s i = record { earlier = s.latest; latest = Some i }

unfoldable pub instances_after : Conduct → ℕ → Instances → Instances
instances_after Undispatched end s = s
instances_after Conformant end s = all_conformed s
instances_after Nonconformant end s = noted s (record { end = end; conformed = false })

-- "declared when the third falls no later than three calendar months after the first, or when no conformant day lies between them"
abbrev pub held_to : ℕ → Option Instance → Bool
held_to third None = false
held_to third (Some first) = leb third first.end || not first.conformed

-- a third instance finds it of the earlier of two
unfoldable pub third_declares : Instances → ℕ → Bool
third_declares s third = held_to third s.earlier

-- ---- an accepted day, and an accepted reinstatement, which "clears instances and declaration"

unfoldable pub entered : Ledger → Window → Conduct → Ledger
entered l window conduct =
    record {
      latest = Some window.start;
      instances = instances_after conduct window.end l.instances;
      declared = l.declared || (is_instance conduct && third_declares l.instances window.start);
    }

unfoldable pub reinstated : Ledger → Ledger
reinstated l = record { latest = l.latest; instances = no_instances; declared = false }

-- ---- the number of the first refusal that applies, 0 where none does

-- no later than the last accepted date, where there is one
abbrev pub not_after : ℕ → Option ℕ → Bool
not_after day None = false
not_after day (Some last) = leb day last

-- "Refusal 33: no such date. Refusal 34: date not later than the last accepted one"
unfoldable pub day_refusal : Ledger → Date → ℕ
day_refusal l date = first_refusal ((33, not (is_date date)) ∷ (34, not_after (ordinal_of date) l.latest) ∷ [])

-- "Refusal 35: reinstatement when not declared"
unfoldable pub reinstate_refusal : Ledger → ℕ
reinstate_refusal l = first_refusal ((35, not l.declared) ∷ [])

-- ---- the calls: the new ledger, or the first refusal that applies

unfoldable pub enter_of : Ledger → Date → Day → Result Ledger LedgerRefusal
enter_of l date day =
    answered_by
    (first_of ((NoDate, not (is_date date)) ∷ (NotLater, not_after (ordinal_of date) l.latest) ∷ []))
    (entered l (window_of date) (conduct_of day))

unfoldable pub reinstate_of : Ledger → Result Ledger LedgerRefusal
reinstate_of l = answered_by (first_of ((NotDeclared, not l.declared) ∷ [])) (reinstated l)

-- a refusal's number in 02
unfoldable pub refusal_number : LedgerRefusal → ℕ
refusal_number NoDate = 33
refusal_number NotLater = 34
refusal_number NotDeclared = 35

-- that of an answer, 0 where the call is accepted
abbrev pub answer_number : Result Ledger LedgerRefusal → ℕ
answer_number = result_number refusal_number

-- what a call promises: all of its answer, and its number in 02
pub record Answered (expected : Result Ledger LedgerRefusal) (refusal : ℕ) (r : Result Ledger LedgerRefusal) : Type 0 where
  pub result : r ≡ expected
  pub number : answer_number r ≡ refusal
