-- What a day is to the ledger, by T, its flag and its counts. Assumes nothing.
use mathlib.Core.Path.{◌≡◌, refl}
use mathlib.Core.Logic.{◌⊎◌, inl, inr}
use mathlib.Core.Bool.{Bool, true, false, ◌||◌, or-true, false≢true}
use Prim.Native.Nat.{◌<◌}
use native.Mathlib.Omega.{arith}
use borrow.Author.Tests.{ltb-true, lt-ltb, eqb-true, eqb-false, eq-eqb, ne_eqb, both_ways}
use lib.Dec.{eqb, ltb}
use Rattle.std.specs.Prelude.{Option, Some, None}
use Rattle.trace.proofs.Tests.{or_cases}
use Rattle.response.specs.declared.Day.{Day}
use Rattle.records.specs.declared.Flag.{Flag}
use Rattle.ledger.specs.Days.{is_flagged, has_flag, conduct_of, Flagged, Conducts}
use Rattle.ledger.specs.declared.Conduct.TheVariants.{Undispatched, Conformant, Nonconformant}

flag-some : (flag : Option Flag) → is_flagged flag ≡ true → ¬ (flag ≡ None)
flag-some None e = absurd (false≢true e)
flag-some (Some f) e = λ n. cc

some-flag : (flag : Option Flag) → ¬ (flag ≡ None) → is_flagged flag ≡ true
some-flag None n = absurd (n refl)
some-flag (Some f) n = refl

module _ (day : Day) where
  flagged : has_flag day ≡ true → Flagged day
  flagged e = go (or_cases (is_flagged day.flag) (ltb 0 day.under || ltb 0 day.over) e)
    where
      counted : (ltb 0 day.under ≡ true) ⊎ (ltb 0 day.over ≡ true) → Flagged day
      counted (inl l) = inr (inl (ltb-true 0 day.under l))
      counted (inr l) = inr (inr (ltb-true 0 day.over l))

      go : (is_flagged day.flag ≡ true) ⊎ ((ltb 0 day.under || ltb 0 day.over) ≡ true) → Flagged day
      go (inl f) = inl (flag-some day.flag f)
      go (inr c) = counted (or_cases (ltb 0 day.under) (ltb 0 day.over) c)

  has-flag : Flagged day → has_flag day ≡ true
  has-flag (inl f) = rw (some-flag day.flag f)
  has-flag (inr (inl l)) = rw (lt-ltb 0 day.under l, or-true (is_flagged day.flag))
  has-flag (inr (inr l)) = rw (lt-ltb 0 day.over l, or-true (ltb 0 day.under), or-true (is_flagged day.flag))

  dispatched : ¬ (day.target ≡ 0) → 0 < day.target
  dispatched n = omega arith

  -- ---- the three kinds of day

  without : day.target ≡ 0 → conduct_of day ≡ Undispatched
  unfolding conduct_of
  without e = rw (eq-eqb day.target 0 e)

  with-flag : 0 < day.target → Flagged day → conduct_of day ≡ Nonconformant
  unfolding conduct_of
  with-flag l f = rw (ne_eqb day.target 0 (λ e. omega arith), has-flag f)

  with-none : 0 < day.target → ¬ Flagged day → conduct_of day ≡ Conformant
  unfolding conduct_of
  with-none l n = go (has_flag day) refl
    where
      go : (t : Bool) → has_flag day ≡ t → conduct_of day ≡ Conformant
      go true e = absurd (n (flagged e))
      go false e = rw (ne_eqb day.target 0 (λ z. omega arith), e)

  -- which one it is
  by-tests : (t f : Bool) → eqb day.target 0 ≡ t → has_flag day ≡ f → Conducts day
  by-tests true f e h =
      let none = eqb-true day.target 0 e in
      let is = without none in
      record {
        undispatched = (λ c. none, λ z. is);
        nonconformant = (λ c. cc, λ p. absurd (let l = p.0 in omega arith));
        conformant = (λ c. cc, λ p. absurd (let l = p.0 in omega arith));
      }
  by-tests false true e h =
      let some = eqb-false day.target 0 e in
      let is = with-flag (dispatched some) (flagged h) in
      record {
        undispatched = (λ c. cc, λ z. absurd (some z));
        nonconformant = (λ c. (dispatched some, flagged h), λ p. is);
        conformant = (λ c. cc, λ p. absurd (p.1 (flagged h)));
      }
  by-tests false false e h =
      let some = eqb-false day.target 0 e in
      let none : ¬ Flagged day = λ f. both_ways (has_flag day) h (has-flag f) in
      let is = with-none (dispatched some) none in
      record {
        undispatched = (λ c. cc, λ z. absurd (some z));
        nonconformant = (λ c. cc, λ p. absurd (none p.1));
        conformant = (λ c. (dispatched some, none), λ p. is);
      }

  pub conducts : Conducts day
  conducts = by-tests (eqb day.target 0) (has_flag day) refl refl
