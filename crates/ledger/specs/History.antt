-- What has happened, worked out from the calls alone, first call to last: no ledger goes in. It keeps every day that was accepted since the
-- last accepted reinstatement, and the rule of 2026-05 is read off these days.
use Rattle.std.specs.Prelude.{◌≡◌, ◌⊎◌, Bool, true, false, cond, not, ◌&&◌, ◌||◌, ℕ, leb, Option, Some, None}
use Rattle.std.specs.Prelude.{List, [], ◌∷◌, ◌++◌}
use Rattle.trace.specs.Lists.{fold, count_in}
use Rattle.trace.specs.Refusals.{first_refusal, first_of}
use Rattle.calendar.specs.Dates.{is_date, three_months_later, Earlier, NoLater}
use Rattle.calendar.specs.Ordinals.{ordinal_of}
use Rattle.calendar.specs.declared.Date.{Date}
use Rattle.response.specs.declared.Day.{Day}
use Rattle.ledger.specs.Days.{conduct_of, is_conformant, is_instance}
use Rattle.ledger.specs.Calls.{Call, enter, reinstate, Verdict}
use Rattle.ledger.specs.declared.Conduct.{Conduct}
use Rattle.ledger.specs.declared.LedgerRefusal.{LedgerRefusal}
use Rattle.ledger.specs.declared.LedgerRefusal.TheVariants.{NoDate, NotLater, NotDeclared}

-- an accepted day
pub record Entry : Type 0 where
  pub date : Date
  pub conduct : Conduct

abbrev pub entry_of : Date → Day → Entry
entry_of date day = record { date = date; conduct = conduct_of day }

abbrev pub instance_day : Entry → Bool
instance_day e = is_instance e.conduct

abbrev pub conformant_day : Entry → Bool
conformant_day e = is_conformant e.conduct

-- ---- the rule, over days of which the latest comes first

-- "At an instance, look at the latest three since reinstatement. The unit is declared when the third falls no later than three calendar
-- months after the first, or when no conformant day lies between them": the latest day is the third, and one instance, the second, lies
-- between it and the first
pub record Held (days : List Entry) : Type 0 where
  pub third : Entry
  pub between : List Entry
  pub first : Entry
  pub earlier : List Entry
  pub splits : days ≡ third ∷ (between ++ (first ∷ earlier))
  pub third_instance : instance_day third ≡ true
  pub first_instance : instance_day first ≡ true
  pub second : count_in instance_day between ≡ 1
  pub rule : NoLater third.date (three_months_later first.date) ⊎ (count_in conformant_day between ≡ 0)

-- The same, worked out, with ordinals for dates: from the third back to the second, and on to the first, with whether a conformant day was met
-- on the way.
unfoldable pub to_first : Entry → Bool → List Entry → Bool
to_first third met [] = false
to_first third met (e ∷ days) =
    cond (instance_day e)
    (leb (ordinal_of third.date) (ordinal_of (three_months_later e.date)) || not met)
    (to_first third (met || conformant_day e) days)

unfoldable pub to_second : Entry → Bool → List Entry → Bool
to_second third met [] = false
to_second third met (e ∷ days) =
    cond (instance_day e) (to_first third met days) (to_second third (met || conformant_day e) days)

unfoldable pub holds : Entry → List Entry → Bool
holds third days = instance_day third && to_second third false days

-- "held at some day since the last accepted reinstatement"
unfoldable pub held_at_some : List Entry → Bool
held_at_some [] = false
held_at_some (e ∷ days) = holds e days || held_at_some days

-- ---- the history

abbrev pub Latest : Type 0
Latest = Option Date

-- the last accepted date, and the days accepted since the last accepted reinstatement, the latest first
pub record History : Type 0 where
  pub latest : Latest
  pub days : List Entry

-- "from an empty ledger on (no date, no instance, not declared)"
abbrev pub begin : History
begin = record { latest = None; days = [] }

-- "date not later than the last accepted one", by ordinals
abbrev pub not_later : Date → Latest → Bool
not_later date None = false
not_later date (Some last) = leb (ordinal_of date) (ordinal_of last)

abbrev pub refusal : History → Call → ℕ
refusal h (enter date day) = first_refusal ((33, not (is_date date)) ∷ (34, not_later date h.latest) ∷ [])
refusal h reinstate = first_refusal ((35, not (held_at_some h.days)) ∷ [])

-- the same by name
abbrev pub refusals : History → Call → List (LedgerRefusal × Bool)
refusals h (enter date day) = (NoDate, not (is_date date)) ∷ (NotLater, not_later date h.latest) ∷ []
refusals h reinstate = (NotDeclared, not (held_at_some h.days)) ∷ []

abbrev pub verdict : History → Call → Verdict
verdict h c = first_of (refusals h c)

-- what an accepted call makes of it
abbrev pub effect : History → Call → History
effect h (enter date day) = record { latest = Some date; days = entry_of date day ∷ h.days }
effect h reinstate = record { latest = h.latest; days = [] }

abbrev pub extend_by : Verdict → History → History → History
extend_by None old new = new
extend_by (Some refusal) old new = old

abbrev pub extend : History → Call → History
extend h c = extend_by (verdict h c) h (effect h c)

abbrev pub history : List Call → History
history = fold extend begin

-- ---- the order of the days, by year, month and day

-- later than the last accepted one, where there is one
abbrev pub Later : Date → Latest → Type 0
Later date None = Unit {0}
Later date (Some last) = Earlier last date

-- the date of the latest of these days
abbrev pub latest_day : List Entry → Latest
latest_day [] = None
latest_day (e ∷ days) = Some e.date

-- each day has a date that there is, later than that of the day listed behind it
pub data Descending : List Entry → Type 0 where
  no_day : Descending []
  later_day : {e : Entry} {days : List Entry} → is_date e.date ≡ true → Later e.date (latest_day days) → Descending days
      → Descending (e ∷ days)
