-- A day at which the rule, as it is worked out, holds sets the history's own test, and only an accepted reinstatement clears it. Assumes nothing.
use mathlib.Core.Path.{◌≡◌, refl, sym, ◌∙◌}
use mathlib.Core.Logic.{◌⊎◌, inl, inr}
use mathlib.Core.Bool.{Bool, true, false, cond, not, false≢true, or-true}
use Rattle.std.specs.Prelude.{Some, None}
use Rattle.trace.specs.Refusals.{first_of}
use Rattle.trace.proofs.Lists.{SetAndCleared}
use Rattle.trace.proofs.Tests.{or_cases}
use Rattle.calendar.specs.declared.Date.{Date}
use Rattle.response.specs.declared.Day.{Day}
use Rattle.ledger.specs.Calls.{Call, enter, reinstate, Verdict}
use Rattle.ledger.specs.History.{entry_of, holds, held_at_some, History, verdict, effect, extend_by, extend}
use Rattle.ledger.specs.Promises.{Reinstates}
use Rattle.ledger.specs.declared.LedgerRefusal.TheVariants.{NotDeclared}

abbrev pub declared_in : History → Bool
declared_in h = held_at_some h.days

-- a day that is accepted, and at which it holds
pub data Sets (h : History) : Call → Type 0 where
  set_at : (date : Date) (day : Day) → verdict h (enter date day) ≡ None → holds (entry_of date day) h.days ≡ true → Sets h (enter date day)

a-day : (date : Date) (day : Day) → enter date day ≡ reinstate → ⊥
a-day date day e = cc

module _ (h : History) where
  -- a reinstatement is accepted exactly where the test is set, and clears it
  pub reinstates : declared_in h ≡ true → verdict h reinstate ≡ None
  unfolding first_of
  reinstates t = rw t

  not-reinstated : declared_in (extend h reinstate) ≡ false
  unfolding first_of held_at_some
  not-reinstated = go (declared_in h) refl
    where
      go : (t : Bool) → declared_in h ≡ t → declared_in (extend_by (cond (not t) (Some NotDeclared) None) h (effect h reinstate)) ≡ false
      go true e = refl
      go false e = e

  sets : (c : Call) → Sets h c → declared_in (extend h c) ≡ true
  unfolding held_at_some
  sets c (set_at date day v held) = rw (v, held)

  keeps : (c : Call) → declared_in h ≡ true → ¬ Reinstates h c → declared_in (extend h c) ≡ true
  unfolding held_at_some
  keeps (enter date day) t r = go (verdict h (enter date day))
    where
      go : (v : Verdict) → declared_in (extend_by v h (effect h (enter date day))) ≡ true
      go None = rw t (or-true (holds (entry_of date day) h.days))
      go (Some refusal) = t
  keeps reinstate t r = absurd (r (refl, reinstates t))

  only : (c : Call) → declared_in (extend h c) ≡ true → Sets h c ⊎ ((declared_in h ≡ true) × ¬ Reinstates h c)
  unfolding held_at_some
  only (enter date day) t = go (verdict h (enter date day)) refl t
    where
      kept : declared_in h ≡ true → (declared_in h ≡ true) × ¬ Reinstates h (enter date day)
      kept e = (e, λ r. a-day date day r.0)

      by : verdict h (enter date day) ≡ None → (holds (entry_of date day) h.days ≡ true) ⊎ (declared_in h ≡ true)
          → Sets h (enter date day) ⊎ ((declared_in h ≡ true) × ¬ Reinstates h (enter date day))
      by v (inl e) = inl (set_at date day v e)
      by v (inr e) = inr (kept e)

      go : (v : Verdict) → verdict h (enter date day) ≡ v → declared_in (extend_by v h (effect h (enter date day))) ≡ true
          → Sets h (enter date day) ⊎ ((declared_in h ≡ true) × ¬ Reinstates h (enter date day))
      go None v e = by v (or_cases (holds (entry_of date day) h.days) (declared_in h) e)
      go (Some refusal) v e = inr (kept e)
  only reinstate t = absurd (false≢true (sym not-reinstated ∙ t))

pub declaration-laws : SetAndCleared extend Sets Reinstates declared_in
declaration-laws = record { sets = sets; keeps = keeps; only = only }
