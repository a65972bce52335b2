-- An accepted day with T = 0 changes the latest date and nothing else, whatever the ledger. Assumes nothing.
use mathlib.Core.Path.{◌≡◌, refl, ◌∙◌}
use mathlib.Core.Bool.{not, or-false}
use mathlib.Core.List.{[], ◌∷◌}
use Rattle.std.specs.Prelude.{Some, None}
use Rattle.trace.specs.Refusals.{first_of, answered_by}
use Rattle.calendar.specs.Dates.{is_date}
use Rattle.calendar.specs.Ordinals.{ordinal_of, window_of}
use Rattle.calendar.specs.declared.Date.{Date}
use Rattle.response.specs.declared.Day.{Day}
use Rattle.ledger.specs.Days.{conduct_of}
use Rattle.ledger.specs.Ledgers.{instances_after, entered, not_after, enter_of}
use Rattle.ledger.specs.Calls.{enter, Verdict, verdict_of, ledger_after, next, answer}
use Rattle.ledger.specs.Promises.{with_latest}
use Rattle.ledger.specs.declared.Conduct.{Conduct}
use Rattle.ledger.specs.declared.Conduct.TheVariants.{Undispatched}
use Rattle.ledger.specs.declared.Ledger.{Ledger}
use Rattle.ledger.specs.declared.LedgerRefusal.TheVariants.{NoDate, NotLater}
use Rattle.ledger.proofs.Conducts.{conducts}

module _ (l : Ledger) (date : Date) where
  entered-latest : (c : Conduct) → c ≡ Undispatched → entered l (window_of date) c ≡ with_latest l date
  unfolding entered window_of instances_after
  entered-latest c e = rw (e, or-false l.declared)

  -- by the refusal
  accepted-new : (v : Verdict) (new : Ledger) → verdict_of (answered_by v new) ≡ None → ledger_after l (answered_by v new) ≡ new
  accepted-new None new e = refl
  accepted-new (Some refusal) new e = cc

  pub only-latest : (day : Day) → day.target ≡ 0 → answer l (enter date day) ≡ None → next l (enter date day) ≡ with_latest l date
  unfolding enter_of
  only-latest day z e =
      accepted-new (first_of ((NoDate, not (is_date date)) ∷ (NotLater, not_after (ordinal_of date) l.latest) ∷ [])) _ e
      ∙ entered-latest (conduct_of day) ((conducts day).undispatched.1 z)
