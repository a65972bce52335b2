-- A call's answer by its refusal, and its number in 02. Assumes nothing.
use mathlib.Core.Path.{◌≡◌}
use mathlib.Core.Bool.{true, false, not}
use mathlib.Core.List.{[], ◌∷◌}
use Rattle.std.specs.Prelude.{Result, Ok, Err}
use Rattle.trace.specs.Refusals.{first_of}
use Rattle.trace.proofs.Refusals.{answered-number}
use Rattle.calendar.specs.Dates.{is_date}
use Rattle.calendar.specs.Ordinals.{ordinal_of, window_of}
use Rattle.calendar.specs.declared.Date.{Date}
use Rattle.response.specs.declared.Day.{Day}
use Rattle.ledger.specs.Days.{conduct_of}
use Rattle.ledger.specs.Ledgers.{entered, reinstated, not_after, refusal_number, day_refusal, reinstate_refusal}
use Rattle.ledger.specs.Ledgers.{enter_of, reinstate_of, answer_number, Answered}
use Rattle.ledger.specs.declared.Ledger.{Ledger}
use Rattle.ledger.specs.declared.LedgerRefusal.{LedgerRefusal}
use Rattle.ledger.specs.declared.LedgerRefusal.TheVariants.{NoDate, NotLater, NotDeclared}

module _ (l : Ledger) (date : Date) (day : Day) where
  abbrev Entering : Result Ledger LedgerRefusal → Type 0
  Entering r = Answered (enter_of l date day) (day_refusal l date) r

  enter-number : answer_number (enter_of l date day) ≡ day_refusal l date
  unfolding enter_of day_refusal refusal_number
  enter-number =
      answered-number refusal_number (entered l (window_of date) (conduct_of day))
      ((NoDate, not (is_date date)) ∷ (NotLater, not_after (ordinal_of date) l.latest) ∷ [])

  entering : (r : Result Ledger LedgerRefusal) → r ≡ enter_of l date day → Entering r
  entering r e = record { result = e; number = rw e enter-number }

  pub no-date : is_date date ≡ false → Entering (Err NoDate)
  unfolding enter_of first_of
  no-date e = entering (Err NoDate) (rw e)

  module _ (e : is_date date ≡ true) where
    pub no-later : not_after (window_of date).start l.latest ≡ true → Entering (Err NotLater)
    unfolding enter_of first_of window_of
    no-later n = entering (Err NotLater) (rw (e, n))

    pub a-later-date : not_after (window_of date).start l.latest ≡ false → (new : Ledger) → new ≡ entered l (window_of date) (conduct_of day)
        → Entering (Ok new)
    unfolding enter_of first_of window_of
    a-later-date n new is = entering (Ok new) (rw (e, n, is))

module _ (l : Ledger) where
  abbrev Reinstating : Result Ledger LedgerRefusal → Type 0
  Reinstating r = Answered (reinstate_of l) (reinstate_refusal l) r

  reinstate-number : answer_number (reinstate_of l) ≡ reinstate_refusal l
  unfolding reinstate_of reinstate_refusal refusal_number
  reinstate-number = answered-number refusal_number (reinstated l) ((NotDeclared, not l.declared) ∷ [])

  reinstating : (r : Result Ledger LedgerRefusal) → r ≡ reinstate_of l → Reinstating r
  reinstating r e = record { result = e; number = rw e reinstate-number }

  pub undeclared : l.declared ≡ false → Reinstating (Err NotDeclared)
  unfolding reinstate_of first_of
  undeclared e = reinstating (Err NotDeclared) (rw e)

  pub declared : l.declared ≡ true → Reinstating (Ok (reinstated l))
  unfolding reinstate_of first_of
  declared e = reinstating (Ok (reinstated l)) (rw e)
