-- What holds of every list of calls from the empty ledger on. Assumes nothing.
use mathlib.Core.Path.{◌≡◌, refl, sym, ap, ◌∙◌}
use mathlib.Core.Logic.{◌↔◌}
use mathlib.Core.Bool.{Bool, true, false, not, false≢true}
use mathlib.Core.List.{List, [], ◌∷◌, map}
use Prim.Native.Nat.{ℕ}
use Rattle.std.specs.Prelude.{Option, Some, None}
use Rattle.trace.specs.Lists.{outcomes, Since}
use Rattle.trace.specs.Refusals.{first_of, answered_by, result_number}
use Rattle.trace.proofs.Refusals.{answered-number}
use Rattle.trace.proofs.Lists.{follows, same-outcomes, since-test, test-since}
use Rattle.calendar.specs.Dates.{is_date}
use Rattle.calendar.specs.declared.Date.{Date}
use Rattle.response.specs.declared.Day.{Day}
use Rattle.ledger.specs.Ledgers.{empty, refusal_number}
use Rattle.ledger.specs.Calls.{Call, enter, reinstate, Verdict, verdict_number, answer, after, run}
use Rattle.ledger.specs.History.{entry_of, held_at_some, History, begin, refusal, refusals, verdict, extend, history, Later}
use Rattle.ledger.specs.Promises.{Declares, at_day, Reinstates, Declared, Begins}
use Rattle.ledger.specs.declared.Instance.{Instance}
use Rattle.ledger.specs.declared.LedgerRefusal.TheVariants.{NotDeclared}
use Rattle.ledger.proofs.Tracks.{Tracks, tracks-empty, tracks-laws}
use Rattle.ledger.proofs.Conducts.{conducts}
use Rattle.ledger.proofs.Declarations.{Sets, set_at, reinstates, declaration-laws}
use Rattle.ledger.proofs.Order.{in-order, accepted-later, enters}
use Rattle.ledger.proofs.Rules.{holds-held, held-holds}
use Rattle.ledger.proofs.Undispatched.{only-latest}

pub tracks-list : (calls : List Call) → Tracks (after empty calls) (history calls)
tracks-list calls = follows tracks-laws calls empty begin tracks-empty

-- ---- declared holds exactly when the rule held at some day since

not-begun : ¬ (held_at_some begin.days ≡ true)
unfolding held_at_some
not-begun e = false≢true e

-- one event for another, where each one of the first after the calls before it is one of the second
since-by : {Event Other : History → Call → Type 0} → ((before : List Call) (c : Call) → Event (history before) c → Other (history before) c)
    → (calls : List Call) → Since extend Event Reinstates begin calls → Since extend Other Reinstates begin calls
since-by by calls s =
    record {
      before = s.before;
      event = s.event;
      later = s.later;
      splits = s.splits;
      happens = by s.before s.event s.happens;
      stands = s.stands;
    }

-- the days are in order, so the rule as it is worked out is the rule by dates
declares : (before : List Call) (c : Call) → Sets (history before) c → Declares (history before) c
declares before c (set_at date day v t) =
    at_day date day v (holds-held (entry_of date day) (history before).days (enters (history before) (in-order before) date day v).days t)

sets : (before : List Call) (c : Call) → Declares (history before) c → Sets (history before) c
sets before c (at_day date day v held) =
    set_at date day v (held-holds (entry_of date day) (history before).days (enters (history before) (in-order before) date day v).days held)

pub recursive : (calls : List Call) → (held_at_some (history calls).days ≡ true) ↔ Declared calls
recursive calls = (
  λ e. since-by declares calls (test-since declaration-laws calls begin not-begun e),
  λ d. since-test declaration-laws calls begin (since-by sets calls d),
)

pub exactly : (calls : List Call) → ((after empty calls).declared ≡ true) ↔ Declared calls
exactly calls =
    let same = (tracks-list calls).declared in
    (λ e. (recursive calls).0 (sym same ∙ e), λ d. same ∙ (recursive calls).1 d)

-- ---- acceptance, by dates

answers : (calls : List Call) (c : Call) → answer (after empty calls) c ≡ verdict (history calls) c
answers calls c = tracks-laws.answers (after empty calls) (history calls) c (tracks-list calls)

acceptance : (calls : List Call) (date : Date) (day : Day)
    → (answer (after empty calls) (enter date day) ≡ None) ↔ ((is_date date ≡ true) × Later date (history calls).latest)
acceptance calls date day =
    let same = answers calls (enter date day) in
    let by-history = accepted-later (history calls) (in-order calls) date day in
    (λ e. by-history.0 (sym same ∙ e), λ p. same ∙ by-history.1 p)

reinstated-by : (h : History) → (verdict h reinstate ≡ None) ↔ (held_at_some h.days ≡ true)
unfolding first_of
reinstated-by h = (go (held_at_some h.days), λ t. reinstates h t)
  where
    go : (t : Bool) → first_of ((NotDeclared, not t) ∷ []) ≡ None → t ≡ true
    go true e = refl
    go false e = cc

reinstatement : (calls : List Call) → (answer (after empty calls) reinstate ≡ None) ↔ Declared calls
reinstatement calls =
    let same = answers calls reinstate in
    let by-history = reinstated-by (history calls) in
    (λ e. (recursive calls).0 (by-history.0 (sym same ∙ e)), λ d. same ∙ by-history.1 ((recursive calls).1 d))

-- ---- the numbers of the refusals

number_by : (v : Verdict) → result_number refusal_number (answered_by v empty) ≡ verdict_number v
number_by None = refl
number_by (Some refused) = refl

verdict-number : (h : History) (c : Call) → verdict_number (verdict h c) ≡ refusal h c
unfolding refusal_number
verdict-number h (enter date day) =
    sym (number_by (verdict h (enter date day))) ∙ answered-number refusal_number empty (refusals h (enter date day))
verdict-number h reinstate = sym (number_by (verdict h reinstate)) ∙ answered-number refusal_number empty (refusals h reinstate)

numbers-of : (calls : List Call) (h : History) → map verdict_number (outcomes extend verdict h calls) ≡ outcomes extend refusal h calls
numbers-of [] h = refl
numbers-of (c ∷ calls) h = rw (verdict-number h c, numbers-of calls (extend h c))

bridge : (calls : List Call) → run empty calls ≡ outcomes extend verdict begin calls
bridge calls = same-outcomes tracks-laws calls empty begin tracks-empty

pub begins : Begins empty
begins =
    record {
      result = refl;
      lists =
          record {
            exactly = exactly;
            recursive = recursive;
            bridge = bridge;
            numbers = λ calls. ap (λ (verdicts : List Verdict). map verdict_number verdicts) (bridge calls) ∙ numbers-of calls begin;
            acceptance = acceptance;
            order = λ calls. (in-order calls).days;
            reinstatement = reinstatement;
            conduct = conducts;
            undispatched = λ calls date day. only-latest (after empty calls) date day;
          };
    }

-- as the code makes it
pub begins-with : (day : Option ℕ) (earlier latest : Option Instance) (declared : Bool) → day ≡ None → earlier ≡ None → latest ≡ None
    → declared ≡ false → Begins (record { latest = day; instances = record { earlier = earlier; latest = latest }; declared = declared })
begins-with day earlier latest declared a b c d = rw (a, b, c, d) begins
