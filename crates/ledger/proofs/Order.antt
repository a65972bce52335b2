-- Days are accepted in the order of their dates, by year, month and day: so what lies between two days of a history lies between their dates.
-- Assumes nothing.
use mathlib.Core.Path.{◌≡◌, refl, subst}
use mathlib.Core.Logic.{◌↔◌, ◌⊎◌, inl, inr}
use Rattle.std.specs.Prelude.{Some, None}
use mathlib.Core.Bool.{Bool, true, false, not}
use mathlib.Core.List.{List, [], ◌∷◌, ◌++◌, nil≢cons, head-eq_of_cons-eq, tail-eq_of_cons-eq}
use Prim.Native.Nat.{◌<◌}
use native.Mathlib.Omega.{arith}
use borrow.Author.Tests.{leb-false, lt-leb}
use Rattle.trace.specs.Refusals.{first_of}
use Rattle.trace.proofs.Lists.{holds_after}
use Rattle.calendar.specs.Dates.{is_date}
use Rattle.calendar.specs.Ordinals.{ordinal_of}
use Rattle.calendar.specs.declared.Date.{Date}
use Rattle.calendar.proofs.Order.{earlier-less, less-earlier, date-dated}
use Rattle.response.specs.declared.Day.{Day}
use Rattle.ledger.specs.Calls.{Call, enter, reinstate, Verdict}
use Rattle.ledger.specs.History.{Entry, Latest, History, begin, not_later, verdict, effect, extend_by, extend, history}
use Rattle.ledger.specs.History.{Later, latest_day, Descending, no_day, later_day}
use Rattle.ledger.specs.declared.LedgerRefusal.TheVariants.{NoDate, NotLater}

-- any one of the days has a date that there is
pub dated : {days : List Entry} → Descending days → (between : List Entry) (e : Entry) (earlier : List Entry) → days ≡ between ++ (e ∷ earlier)
    → is_date e.date ≡ true
dated no_day [] e earlier split = absurd (nil≢cons split)
dated no_day (f ∷ between) e earlier split = absurd (nil≢cons split)
dated (later_day d l rest) [] e earlier split = subst (λ (f : Entry). is_date f.date ≡ true) (head-eq_of_cons-eq split) d
dated (later_day d l rest) (f ∷ between) e earlier split = dated rest between e earlier (tail-eq_of_cons-eq split)

-- ---- what every call keeps

-- the last accepted date, where there is one, is a date
abbrev IsDate : Latest → Type 0
IsDate None = Unit {0}
IsDate (Some last) = is_date last ≡ true

-- and is that of the latest day, if a day was accepted since the last reinstatement
pub record InOrder (h : History) : Type 0 where
  pub is-date : IsDate h.latest
  pub latest : (latest_day h.days ≡ None) ⊎ (latest_day h.days ≡ h.latest)
  pub days : Descending h.days

-- ---- an accepted date is one, and is later than the last

both-pass : (d t : Bool) → first_of ((NoDate, not d) ∷ (NotLater, t) ∷ []) ≡ None → (d ≡ true) × (t ≡ false)
unfolding first_of
both-pass true true e = cc
both-pass true false e = (refl, refl)
both-pass false t e = cc

module _ (date : Date) (d : is_date date ≡ true) where
  later-than : (latest : Latest) → IsDate latest → not_later date latest ≡ false → Later date latest
  later-than None is e = tt
  later-than (Some last) is e =
      let l : ordinal_of last < ordinal_of date = omega (arith, leb-false) in
      less-earlier last date (date-dated last is) (date-dated date d) l

  not-later : (latest : Latest) → IsDate latest → Later date latest → not_later date latest ≡ false
  not-later None is l = refl
  not-later (Some last) is l =
      lt-leb (ordinal_of date) (ordinal_of last) (earlier-less last date (date-dated last is) (date-dated date d) l)

module _ (h : History) (o : InOrder h) (date : Date) (day : Day) where
  pub accepted-later : (verdict h (enter date day) ≡ None) ↔ ((is_date date ≡ true) × Later date h.latest)
  unfolding first_of
  accepted-later = (
    λ e. let p = both-pass (is_date date) (not_later date h.latest) e in (p.0, later-than date p.0 h.latest o.is-date p.1),
    λ p. rw (p.0, not-later date p.0 h.latest o.is-date p.1),
  )

  after-days : (latest_day h.days ≡ None) ⊎ (latest_day h.days ≡ h.latest) → Later date h.latest → Later date (latest_day h.days)
  after-days (inl none) l = rw none tt
  after-days (inr same) l = rw same l

  pub enters : verdict h (enter date day) ≡ None → InOrder (effect h (enter date day))
  enters e =
      let l = accepted-later.0 e in
      record { is-date = l.0; latest = inr refl; days = later_day l.0 (after-days o.latest l.1) o.days }

keeps : (h : History) (c : Call) → InOrder h → InOrder (extend h c)
keeps h c o = go (verdict h c) refl
  where
    accepted : (c : Call) → verdict h c ≡ None → InOrder (effect h c)
    accepted (enter date day) e = enters h o date day e
    accepted reinstate e = record { is-date = o.is-date; latest = inl refl; days = no_day }

    go : (v : Verdict) → verdict h c ≡ v → InOrder (extend_by v h (effect h c))
    go None e = accepted c e
    go (Some refusal) e = o

pub in-order : (calls : List Call) → InOrder (history calls)
in-order calls = holds_after InOrder keeps calls begin (record { is-date = tt; latest = inl refl; days = no_day })
