-- The rule of 2026-05 in its own words, and as it is worked out from the days: the same. Assumes nothing.
use mathlib.Core.Path.{◌≡◌, refl, ap}
use mathlib.Core.Logic.{◌⊎◌, inl, inr}
use mathlib.Core.Bool.{Bool, true, false, cond, not, ◌||◌, false≢true, or-true, or-false}
use mathlib.Core.List.{List, [], ◌∷◌, ◌++◌, head-eq_of_cons-eq, tail-eq_of_cons-eq}
use Prim.Native.Nat.{ℕ, suc, ◌≤◌}
use native.Mathlib.Omega.{arith}
use borrow.Author.Tests.{leb-true, le-leb, not-true}
use lib.Dec.{leb}
use Rattle.trace.specs.Lists.{count_in}
use Rattle.trace.proofs.Tests.{and_l, and_r, or_cases, or-neither}
use Rattle.calendar.specs.Dates.{is_date, three_months_later, NoLater}
use Rattle.calendar.specs.Ordinals.{ordinal_of}
use Rattle.calendar.proofs.Order.{within-three-months}
use Rattle.ledger.specs.Days.{is_conformant, is_instance}
use Rattle.ledger.specs.History.{Entry, instance_day, conformant_day, Held, to_first, to_second, holds, Descending}
use Rattle.ledger.specs.declared.Conduct.{Conduct}
use Rattle.ledger.specs.declared.Conduct.TheVariants.{Undispatched, Conformant, Nonconformant}
use Rattle.ledger.proofs.Order.{dated}

-- a count that is 0 is 0 of the first and of the rest
none-counted : (t : Bool) (n : ℕ) → cond t (suc n) n ≡ 0 → (t ≡ false) × (n ≡ 0)
none-counted true n e = absurd (omega arith)
none-counted false n e = (refl, e)

not-conformant : (c : Conduct) → is_instance c ≡ true → is_conformant c ≡ false
not-conformant Undispatched e = absurd (false≢true e)
not-conformant Conformant e = absurd (false≢true e)
not-conformant Nonconformant e = refl

module _ (third : Entry) where
  abbrev within : Entry → Bool
  within first = leb (ordinal_of third.date) (ordinal_of (three_months_later first.date))

  -- the rule, with whether a conformant day was met before these
  abbrev Rule : Entry → Bool → List Entry → Type 0
  Rule first met between =
      (ordinal_of third.date ≤ ordinal_of (three_months_later first.date)) ⊎ ((met ≡ false) × (count_in conformant_day between ≡ 0))

  -- the first of the three, back past k instances
  record Back (met : Bool) (k : ℕ) (days : List Entry) : Type 0 where
    between : List Entry
    first : Entry
    earlier : List Entry
    splits : days ≡ between ++ (first ∷ earlier)
    instance-day : instance_day first ≡ true
    passed : count_in instance_day between ≡ k
    rule : Rule first met between

  -- ---- one day more on the way

  rule-out : (e first : Entry) (met : Bool) (between : List Entry) → Rule first (met || conformant_day e) between → Rule first met (e ∷ between)
  rule-out e first met between (inl l) = inl l
  rule-out e first met between (inr (m, z)) = let n = or-neither met (conformant_day e) m in inr (n.0, rw n.1 z)

  rule-in : (e first : Entry) (met : Bool) (between : List Entry) → Rule first met (e ∷ between) → Rule first (met || conformant_day e) between
  rule-in e first met between (inl l) = inl l
  rule-in e first met between (inr (m, z)) =
      let n = none-counted (conformant_day e) (count_in conformant_day between) z in
      inr (rw (m, n.0), n.1)

  -- the way to the first goes one day further back, of which so many on it are instances
  further : (e : Entry) (met later : Bool) (passed more : ℕ) (days : List Entry) (b : Back later passed days)
      → count_in instance_day (e ∷ b.between) ≡ more → Rule b.first met (e ∷ b.between) → Back met more (e ∷ days)
  further e met later passed more days b n r =
      record {
        between = e ∷ b.between;
        first = b.first;
        earlier = b.earlier;
        splits = ap (λ (l : List Entry). e ∷ l) b.splits;
        instance-day = b.instance-day;
        passed = n;
        rule = r;
      }

  other-day : (e : Entry) (met : Bool) (k : ℕ) (days : List Entry) → instance_day e ≡ false → Back (met || conformant_day e) k days → Back met k (e ∷ days)
  other-day e met k days o b =
      further e met (met || conformant_day e) k k days b (rw o b.passed) (rule-out e b.first met b.between b.rule)

  instance-passed : (e : Entry) (met : Bool) (days : List Entry) → instance_day e ≡ true → Back met 0 days → Back met 1 (e ∷ days)
  instance-passed e met days i b =
      further e met met 0 1 days b (rw (i, b.passed))
      (rule-out e b.first met b.between (rw (not-conformant e.conduct i, or-false met) b.rule))

  -- ---- from what is worked out to the words

  rule-here : (first : Entry) (met : Bool) → (within first || not met) ≡ true → Rule first met []
  rule-here first met t = go (or_cases (within first) (not met) t)
    where
      go : (within first ≡ true) ⊎ (not met ≡ true) → Rule first met []
      go (inl l) = inl (leb-true _ _ l)
      go (inr m) = inr (not-true met m, refl)

  first_back : (days : List Entry) (met : Bool) → to_first third met days ≡ true → Back met 0 days
  unfolding to_first
  first_back [] met t = absurd (false≢true t)
  first_back (e ∷ days) met t = go (instance_day e) refl t (first_back days (met || conformant_day e))
    where
      go : (i : Bool) → instance_day e ≡ i → cond i (within e || not met) (to_first third (met || conformant_day e) days) ≡ true
          → (to_first third (met || conformant_day e) days ≡ true → Back (met || conformant_day e) 0 days) → Back met 0 (e ∷ days)
      go true i t further =
          record { between = []; first = e; earlier = days; splits = refl; instance-day = i; passed = refl; rule = rule-here e met t }
      go false i t further = other-day e met 0 days i (further t)

  second_back : (days : List Entry) (met : Bool) → to_second third met days ≡ true → Back met 1 days
  unfolding to_second
  second_back [] met t = absurd (false≢true t)
  second_back (e ∷ days) met t = go (instance_day e) refl t (second_back days (met || conformant_day e))
    where
      go : (i : Bool) → instance_day e ≡ i → cond i (to_first third met days) (to_second third (met || conformant_day e) days) ≡ true
          → (to_second third (met || conformant_day e) days ≡ true → Back (met || conformant_day e) 1 days) → Back met 1 (e ∷ days)
      go true i t further = instance-passed e met days i (first_back days met t)
      go false i t further = other-day e met 1 days i (further t)

  -- ---- from the words to what is worked out

  module _ (first : Entry) (earlier : List Entry) (is : instance_day first ≡ true) where
    here-rule : (met : Bool) → Rule first met [] → (within first || not met) ≡ true
    here-rule met (inl l) = rw (le-leb _ _ l)
    here-rule met (inr (m, z)) = rw m (or-true (within first))

    back-first : (between : List Entry) (met : Bool) → count_in instance_day between ≡ 0 → Rule first met between
        → to_first third met (between ++ (first ∷ earlier)) ≡ true
    unfolding to_first
    back-first [] met n r = rw is (here-rule met r)
    back-first (e ∷ between) met n r =
        let other = none-counted (instance_day e) (count_in instance_day between) n in
        rw other.0 (back-first between (met || conformant_day e) other.1 (rule-in e first met between r))

    back-second : (between : List Entry) (met : Bool) → count_in instance_day between ≡ 1 → Rule first met between
        → to_second third met (between ++ (first ∷ earlier)) ≡ true
    unfolding to_second
    back-second [] met n r = absurd (omega arith)
    back-second (e ∷ between) met n r = go (instance_day e) refl n (back-second between (met || conformant_day e))
      where
        further : Rule first (met || conformant_day e) between
        further = rule-in e first met between r

        go : (i : Bool) → instance_day e ≡ i → cond i (suc (count_in instance_day between)) (count_in instance_day between) ≡ 1
            → (count_in instance_day between ≡ 1 → Rule first (met || conformant_day e) between
            → to_second third (met || conformant_day e) (between ++ (first ∷ earlier)) ≡ true)
            → cond i (to_first third met (between ++ (first ∷ earlier))) (to_second third (met || conformant_day e) (between ++ (first ∷ earlier))) ≡ true
        go true i n next = back-first between met (omega arith) (rw (not-conformant e.conduct i, or-false met) at further)
        go false i n next = next n further

-- ---- the same, of days in the order of their dates

module _ (third : Entry) (days : List Entry) (d : Descending (third ∷ days)) where
  pub holds-held : holds third days ≡ true → Held (third ∷ days)
  unfolding holds
  holds-held t =
      let b = second_back third days false (and_r (instance_day third) (to_second third false days) t) in
      let splits = ap (λ (l : List Entry). third ∷ l) b.splits in
      record {
        third = third;
        between = b.between;
        first = b.first;
        earlier = b.earlier;
        splits = splits;
        third_instance = and_l (instance_day third) (to_second third false days) t;
        first_instance = b.instance-day;
        second = b.passed;
        rule = by-dates b.first b.between (dated d (third ∷ b.between) b.first b.earlier splits) b.rule;
      }
    where
      by-dates : (first : Entry) (between : List Entry) → is_date first.date ≡ true → Rule third first false between
          → NoLater third.date (three_months_later first.date) ⊎ (count_in conformant_day between ≡ 0)
      by-dates first between f (inl l) = inl ((within-three-months third.date first.date (dated d [] third days refl) f).0 l)
      by-dates first between f (inr (m, z)) = inr z

  pub held-holds : Held (third ∷ days) → holds third days ≡ true
  unfolding holds
  held-holds h =
      rw (head-eq_of_cons-eq h.splits, tail-eq_of_cons-eq h.splits, h.third_instance)
      (back-second h.third h.first h.earlier h.first_instance h.between false h.second (by-ordinals h.rule))
    where
      by-ordinals : NoLater h.third.date (three_months_later h.first.date) ⊎ (count_in conformant_day h.between ≡ 0)
          → Rule h.third h.first false h.between
      by-ordinals (inl n) =
          let third-dated = dated d [] h.third (h.between ++ (h.first ∷ h.earlier)) h.splits in
          let first-dated = dated d (h.third ∷ h.between) h.first h.earlier h.splits in
          inl ((within-three-months h.third.date h.first.date third-dated first-dated).1 n)
      by-ordinals (inr z) = inr (refl, z)
