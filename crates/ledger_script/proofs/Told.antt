-- What is promised of every list of calls on a ledger holds of what is printed. Assumes nothing.
use mathlib.Core.Path.{◌≡◌, refl, sym, ap, ◌∙◌}
use mathlib.Core.Logic.{◌⊎◌, inl, inr}
use mathlib.Core.Bool.{Bool, true, false, false≢true}
use mathlib.Core.List.{List, [], ◌∷◌, ◌++◌}
use Prim.Native.Nat.{ℕ}
use Rattle.std.specs.Prelude.{None, Result, Ok, Err}
use Rattle.trace.specs.Lists.{fold}
use Rattle.trace.proofs.Lists.{fold-append}
use Rattle.calendar.specs.declared.Date.{Date}
use Rattle.response.specs.Answers.{file_answer}
use Rattle.response.specs.declared.DayRefusal.{DayRefusal}
use Rattle.response.specs.declared.Day.{Day}
use Rattle.ledger.specs.Ledgers.{empty}
use Rattle.ledger.specs.Calls.{Call, enter, next, answer, after}
use Rattle.ledger.specs.Promises.{Declared}
use Rattle.ledger.specs.declared.Ledger.{Ledger}
use Rattle.ledger.proofs.Promised.{exactly}
use Rattle.ledger_script.specs.Items.{Item, unreadable, days, reinstates}
use Rattle.ledger_script.specs.Texts.{accepted_text}
use Rattle.ledger_script.specs.Steps.{made_day, made_file, made_by}
use Rattle.ledger_script.specs.Outcomes.{file_calls, item_calls, calls_of}

-- ---- the ledger is the one after the calls that were made

file-calls : (l : Ledger) (date : Date) (a : Result Day DayRefusal) → (made_file l date a).state ≡ after l (file_calls date a)
file-calls l date (Err refusal) = refl
file-calls l date (Ok day) = refl

made-calls : (l : Ledger) (at : ℕ) (item : Item) → (made_by l at item).state ≡ after l (item_calls item)
made-calls l at unreadable = refl
made-calls l at (days date file) = file-calls l date (file_answer file)
made-calls l at reinstates = refl

-- the ledger that a list of items leads to, each with the place of its tag
abbrev made : Ledger → ℕ × Item → Ledger
made l i = (made_by l i.0 i.1).state

abbrev items : List (ℕ × Item) → List Item
items [] = []
items (i ∷ rest) = i.1 ∷ items rest

pub list-calls : (placed : List (ℕ × Item)) (l : Ledger) → fold made l placed ≡ after l (calls_of (items placed))
list-calls [] l = refl
list-calls (i ∷ rest) l =
    ap (λ (m : Ledger). fold made m rest) (made-calls l i.0 i.1)
    ∙ list-calls rest (after l (item_calls i.1))
    ∙ sym (fold-append next l (item_calls i.1) (calls_of (items rest)))

-- ---- DECLARED is 1 exactly where the rule held since the last accepted reinstatement

module _ (calls : List Call) (date : Date) (day : Day) (accepted : answer (after empty calls) (enter date day) ≡ None) where
  abbrev with-day : List Call
  with-day = calls ++ (enter date day ∷ [])

  told-as : (declared : Bool) → (next (after empty calls) (enter date day)).declared ≡ declared
      → (made_day (after empty calls) date day).text ≡ accepted_text day declared
  told-as declared e = rw (accepted, e)

  same : (after empty with-day).declared ≡ (next (after empty calls) (enter date day)).declared
  same = ap (λ (l : Ledger). l.declared) (fold-append next empty calls (enter date day ∷ []))

  pub declared-told : (((made_day (after empty calls) date day).text ≡ accepted_text day true) × Declared with-day)
      ⊎ (((made_day (after empty calls) date day).text ≡ accepted_text day false) × ¬ Declared with-day)
  declared-told = go (next (after empty calls) (enter date day)).declared refl
    where
      go : (declared : Bool) → (next (after empty calls) (enter date day)).declared ≡ declared
          → (((made_day (after empty calls) date day).text ≡ accepted_text day true) × Declared with-day)
          ⊎ (((made_day (after empty calls) date day).text ≡ accepted_text day false) × ¬ Declared with-day)
      go true e = inl (told-as true e, (exactly with-day).0 (same ∙ e))
      go false e = inr (told-as false e, λ d. false≢true (sym e ∙ sym same ∙ (exactly with-day).1 d))
