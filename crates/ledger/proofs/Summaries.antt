-- What a ledger holds of the days since reinstatement is enough to find what the days say. Assumes nothing.
use mathlib.Core.Path.{◌≡◌, refl, ap, ◌∙◌}
use mathlib.Core.Bool.{Bool, true, false, cond, not, ◌&&◌, ◌||◌, or-true, or-false}
use mathlib.Core.List.{List, [], ◌∷◌}
use Prim.Native.Nat.{ℕ}
use lib.Dec.{leb}
use Rattle.std.specs.Prelude.{Option, Some, None}
use Rattle.std.specs.Option.{option_map}
use Rattle.calendar.specs.Dates.{three_months_later}
use Rattle.calendar.specs.Ordinals.{ordinal_of}
use Rattle.ledger.specs.Days.{is_conformant, is_instance}
use Rattle.ledger.specs.Ledgers.{no_instances, conformed, instances_after, held_to, third_declares}
use Rattle.ledger.specs.History.{Entry, instance_day, to_first, to_second, holds}
use Rattle.ledger.specs.declared.Conduct.{Conduct}
use Rattle.ledger.specs.declared.Conduct.TheVariants.{Undispatched, Conformant, Nonconformant}
use Rattle.ledger.specs.declared.Instance.{Instance}
use Rattle.ledger.specs.declared.Instances.{Instances}

-- the instances that a ledger holds after these days
abbrev end_of : Entry → ℕ
end_of e = ordinal_of (three_months_later e.date)

unfoldable pub summary_of : List Entry → Instances
summary_of [] = no_instances
summary_of (e ∷ days) = instances_after e.conduct (end_of e) (summary_of days)

-- ---- what an instance, where there is one, says to a third one

abbrev says_to : ℕ → Bool → Option Instance → Bool
says_to third met None = false
says_to third met (Some a) = leb third a.end || not (met || a.conformed)

module _ (third : ℕ) where
  says-conformed : (met : Bool) (o : Option Instance) → says_to third met (option_map conformed o) ≡ says_to third true o
  says-conformed met None = refl
  says-conformed met (Some a) = rw (or-true met)

  says-noted : (met : Bool) (end : ℕ) → says_to third met (Some (record { end = end; conformed = false })) ≡ (leb third end || not met)
  says-noted met end = rw (or-false met)

  says-held : (o : Option Instance) → says_to third false o ≡ held_to third o
  says-held None = refl
  says-held (Some a) = refl

-- ---- the days say the same

module _ (third : Entry) where
  abbrev on : ℕ
  on = ordinal_of third.date

  first_says : (days : List Entry) (met : Bool) → to_first third met days ≡ says_to on met (summary_of days).latest
  unfolding to_first summary_of instances_after
  first_says [] met = refl
  first_says (e ∷ days) met = go e.conduct (first_says days)
    where
      go : (c : Conduct) → ((m : Bool) → to_first third m days ≡ says_to on m (summary_of days).latest)
          → cond (is_instance c) (leb on (end_of e) || not met) (to_first third (met || is_conformant c) days)
          ≡ says_to on met (instances_after c (end_of e) (summary_of days)).latest
      go Undispatched says = ap (λ (m : Bool). to_first third m days) (or-false met) ∙ says met
      go Conformant says = rw (or-true met, says-conformed on met (summary_of days).latest) (says true)
      go Nonconformant says = rw (says-noted on met (end_of e))

  second-says : (days : List Entry) (met : Bool) → to_second third met days ≡ says_to on met (summary_of days).earlier
  unfolding to_second summary_of instances_after
  second-says [] met = refl
  second-says (e ∷ days) met = go e.conduct (second-says days)
    where
      go : (c : Conduct) → ((m : Bool) → to_second third m days ≡ says_to on m (summary_of days).earlier)
          → cond (is_instance c) (to_first third met days) (to_second third (met || is_conformant c) days)
          ≡ says_to on met (instances_after c (end_of e) (summary_of days)).earlier
      go Undispatched says = ap (λ (m : Bool). to_second third m days) (or-false met) ∙ says met
      go Conformant says = rw (or-true met, says-conformed on met (summary_of days).earlier) (says true)
      go Nonconformant says = first_says days met

  third-says : (s : Instances) → says_to on false s.earlier ≡ third_declares s on
  unfolding third_declares
  third-says s = says-held on s.earlier

  -- so the ledger declares exactly where the days do
  pub holds-summary : (days : List Entry) → holds third days ≡ (instance_day third && third_declares (summary_of days) on)
  unfolding holds
  holds-summary days = ap (λ (t : Bool). instance_day third && t) (second-says days false ∙ third-says (summary_of days))
