-- A ledger beside the history of the calls that led to it: it holds the latest date's ordinal, what the days since reinstatement come to, and
-- whether the rule held at one of them. One law for each call. Assumes nothing.
use mathlib.Core.Path.{◌≡◌, refl, sym, ap, subst, ◌∙◌}
use mathlib.Core.Bool.{Bool, not, or_comm}
use mathlib.Core.List.{List, [], ◌∷◌}
use Rattle.std.specs.Prelude.{Some, None, Result}
use Rattle.std.specs.Option.{option_map}
use Rattle.trace.specs.Refusals.{first_of, answered_by}
use Rattle.trace.proofs.Lists.{Follows}
use Rattle.calendar.specs.Dates.{is_date}
use Rattle.calendar.specs.Ordinals.{ordinal_of, window_of}
use Rattle.calendar.specs.declared.Date.{Date}
use Rattle.ledger.specs.Days.{conduct_of}
use Rattle.ledger.specs.Ledgers.{empty, entered, reinstated, not_after, enter_of, reinstate_of}
use Rattle.ledger.specs.Calls.{Call, enter, reinstate, Verdict, verdict_of, ledger_after, answered, next, answer}
use Rattle.ledger.specs.History.{entry_of, held_at_some, Latest, History, begin, not_later, refusals, verdict, effect, extend_by, extend}
use Rattle.ledger.specs.declared.Ledger.{Ledger}
use Rattle.ledger.specs.declared.LedgerRefusal.{LedgerRefusal}
use Rattle.ledger.specs.declared.LedgerRefusal.TheVariants.{NoDate, NotLater, NotDeclared}
use Rattle.ledger.proofs.Summaries.{summary_of, holds-summary}

pub record Tracks (l : Ledger) (h : History) : Type 0 where
  pub latest : l.latest ≡ option_map ordinal_of h.latest
  pub instances : l.instances ≡ summary_of h.days
  pub declared : l.declared ≡ held_at_some h.days

pub tracks-empty : Tracks empty begin
unfolding summary_of held_at_some
tracks-empty = record { latest = refl; instances = refl; declared = refl }

-- ---- what refuses a call, and what an accepted one makes of the ledger

abbrev refusals_of : Ledger → Call → List (LedgerRefusal × Bool)
refusals_of l (enter date day) = (NoDate, not (is_date date)) ∷ (NotLater, not_after (ordinal_of date) l.latest) ∷ []
refusals_of l reinstate = (NotDeclared, not l.declared) ∷ []

accepted_of : Ledger → Call → Ledger
accepted_of l (enter date day) = entered l (window_of date) (conduct_of day)
accepted_of l reinstate = reinstated l

answered-by : (l : Ledger) (c : Call) → answered l c ≡ answered_by (first_of (refusals_of l c)) (accepted_of l c)
unfolding accepted_of enter_of reinstate_of
answered-by l (enter date day) = refl
answered-by l reinstate = refl

same-later : (date : Date) (latest : Latest) → not_after (ordinal_of date) (option_map ordinal_of latest) ≡ not_later date latest
same-later date None = refl
same-later date (Some last) = refl

module _ (l : Ledger) (h : History) (t : Tracks l h) where
  same-refusals : (c : Call) → refusals_of l c ≡ refusals h c
  same-refusals (enter date day) = rw (t.latest, same-later date h.latest)
  same-refusals reinstate = rw t.declared

  -- an accepted call
  tracks-accepted : (c : Call) → Tracks (accepted_of l c) (effect h c)
  unfolding accepted_of entered reinstated window_of summary_of held_at_some
  tracks-accepted (enter date day) =
      record {
        latest = refl;
        instances = rw t.instances;
        declared =
            rw (t.declared, t.instances, ← holds-summary (entry_of date day) h.days)
            (or_comm (held_at_some h.days) _);
      }
  tracks-accepted reinstate = record { latest = t.latest; instances = refl; declared = refl }

  -- by the refusal
  tracks-by : (v : Verdict) (new : Ledger) (after : History) → Tracks new after → Tracks (ledger_after l (answered_by v new)) (extend_by v h after)
  tracks-by None new after a = a
  tracks-by (Some refusal) new after a = t

  answers_by : (v : Verdict) (new : Ledger) → verdict_of (answered_by v new) ≡ v
  answers_by None new = refl
  answers_by (Some refusal) new = refl

  answer_is : (c : Call) → answered l c ≡ answered_by (verdict h c) (accepted_of l c)
  answer_is c = answered-by l c ∙ ap (λ (list : List (LedgerRefusal × Bool)). answered_by (first_of list) (accepted_of l c)) (same-refusals c)

  goes : (c : Call) → Tracks (next l c) (extend h c)
  goes c =
      subst (λ (r : Result Ledger LedgerRefusal). Tracks (ledger_after l r) (extend h c)) (sym (answer_is c))
      (tracks-by (verdict h c) (accepted_of l c) (effect h c) (tracks-accepted c))

  answers : (c : Call) → answer l c ≡ verdict h c
  answers c = ap verdict_of (answer_is c) ∙ answers_by (verdict h c) (accepted_of l c)

pub tracks-laws : Follows next answer extend verdict Tracks
tracks-laws = record { goes = λ l h c t. goes l h t c; answers = λ l h c t. answers l h t c }
