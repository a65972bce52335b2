-- Where a point is, and what is permitted there, over plain values. Assumes nothing.
use mathlib.Core.Path.{◌≡◌, refl, sym, ◌∙◌}
use mathlib.Core.Bool.{Bool, true, false, cond, ◌&&◌}
use Prim.Native.Nat.{ℕ, zero, suc, ◌+◌, ◌-◌, ◌≤◌, ◌<◌}
use native.Mathlib.Omega.{arith}
use borrow.Author.Tests.{leb-true, le-leb, lt-leb, ltb-true, ltb-false}
use lib.Dec.{leb, ltb}
use Rattle.trace.proofs.Tests.{and_l, and_r}
use Rattle.std.specs.Prelude.{Option, Some, None, SomeIff, Result, Ok, Err}
use Rattle.std.specs.Option.{ok_or}
use Rattle.plants.specs.Plants.{Plant, place}
use Rattle.plants.specs.Rosters.{held}
use Rattle.plants.specs.declared.Roster.{Roster}
use Rattle.intervals.specs.Plants.{total, named}
use Rattle.intervals.specs.Monitors.{roster_in, plant_in, point_at, sound_of, sound_roster}
use Rattle.intervals.specs.Intervals.{Verdict}
use Rattle.intervals.specs.declared.Monitor.{Monitor}
use Rattle.intervals.specs.declared.CallRefusal.{CallRefusal}
use Rattle.intervals.specs.declared.CallRefusal.TheVariants.{NoPoint, NoRegister}
use Rattle.intervals.proofs.States.{roster-held, none-held, units_small, aggregates-small}
use Rattle.operators.specs.Operators.{Operator, permit_target, aggregate_at, permit, locate_of, operator_verdict}
use Rattle.operators.specs.declared.Located.{Located}

pub named-is : (plant : Plant) (p : ℕ) → named plant p ≡ (leb 1 p && leb p (total plant))
unfolding named
named-is plant zero = rw (lt-leb 1 0 (omega arith))
named-is plant (suc i) = go (ltb i (total plant)) refl
  where
    go : (b : Bool) → ltb i (total plant) ≡ b → b ≡ (leb 1 (suc i) && leb (suc i) (total plant))
    go true e = let h : i < total plant = ltb-true i (total plant) e in rw (le-leb 1 (suc i) (omega arith), le-leb (suc i) (total plant) (omega arith))
    go false e = let h : total plant ≤ i = ltb-false i (total plant) e in rw (le-leb 1 (suc i) (omega arith), lt-leb (suc i) (total plant) (omega arith))

place-is : (p : ℕ) → place p ≡ p - 1
place-is zero = refl
place-is (suc i) = omega arith

-- what is known of a point that was found
pub record Found (m : Monitor) (p : ℕ) (at : Located) : Type 0 where
  pub sound : sound_of m ≡ true
  pub named : named (plant_in m) p ≡ true
  pub roster : at.roster ≡ roster_in m
  pub place : at.place ≡ place p
  pub units : at.roster.units ≤ 64
  pub aggregates : at.roster.aggregates ≤ 16
  pub inside : at.place < at.roster.units + at.roster.aggregates

-- a point that is named has a place
below-total : (plant : Plant) (p : ℕ) → named plant p ≡ true → place p < total plant
unfolding named
below-total plant zero e = cc
below-total plant (suc i) e = ltb-true i (total plant) e

module _ (m : Monitor) (p : ℕ) where
  -- ---- what the code finds

  module _ {roster : Roster} (lent : Some roster ≡ sound_roster m) where
    pub few : (roster.units ≤ 64) × (roster.aggregates ≤ 16)
    few = let h = roster-held m roster lent in rw h.1 (units_small m h.0, aggregates-small m h.0)

    module _ {named : Bool} (is : named ≡ (leb 1 p && leb p (roster.units + roster.aggregates))) where
      pub unnamed : named ≡ false → locate_of m p ≡ Err NoPoint
      unfolding locate_of plant_in
      unnamed e = let h = roster-held m roster lent in rw (h.0, ← h.1, named-is (held roster) p, ← is, e)

      pub located : named ≡ true → locate_of m p ≡ Ok (record { roster = roster; place = p - 1 })
      unfolding locate_of plant_in
      located e = let h = roster-held m roster lent in rw (h.0, ← h.1, named-is (held roster) p, ← is, e, place-is p)

      pub inside : named ≡ true → p - 1 < roster.units + 16
      inside e =
          let up = leb-true p (roster.units + roster.aggregates) (and_r (leb 1 p) (leb p (roster.units + roster.aggregates)) (sym is ∙ e)) in
          let from = leb-true 1 p (and_l (leb 1 p) (leb p (roster.units + roster.aggregates)) (sym is ∙ e)) in
          omega (arith, few)

  pub unheld : None ≡ sound_roster m → locate_of m p ≡ Err NoRegister
  unfolding locate_of
  unheld e = rw (none-held m e)

  -- ---- and what its callers know

  pub found : {at : Located} {r : Result Located CallRefusal} → r ≡ locate_of m p → r ≡ Ok at → Found m p at
  unfolding locate_of plant_in
  found {at} is e = go (sound_of m) (named (plant_in m) p) refl refl (sym is ∙ e)
    where
      here : sound_of m ≡ true → named (plant_in m) p ≡ true → (x : Located) → x ≡ record { roster = roster_in m; place = place p } → Found m p x
      here s n x is =
          rw is
          record {
            sound = s;
            named = n;
            roster = refl;
            place = refl;
            units = units_small m s;
            aggregates = aggregates-small m s;
            inside = below-total (plant_in m) p n;
          }

      go : (s n : Bool) → sound_of m ≡ s → named (plant_in m) p ≡ n
          → cond s (cond n (Ok (record { roster = roster_in m; place = place p })) (Err NoPoint)) (Err NoRegister) ≡ Ok at → Found m p at
      go true true s n is = here s n at (cc)
      go true false s n is = cc
      go false n s t is = cc

  -- what is permitted of it is the verdict
  pub judged : {at : Located} → Found m p at → (op : Operator)
      → operator_verdict op m p ≡ permit (held at.roster) at.place op (point_at m at.place)
  unfolding operator_verdict plant_in
  judged f op = rw (f.sound, f.named, f.roster, f.place)

  -- and where it was not found, the refusal is
  pub unfound : {refusal : CallRefusal} {r : Result Located CallRefusal} → r ≡ locate_of m p → r ≡ Err refusal → (op : Operator)
      → operator_verdict op m p ≡ Err refusal
  unfolding operator_verdict locate_of
  unfound {refusal} is e op = go (sound_of m) (named (plant_in m) p) _ _ (sym is ∙ e)
    where
      go : (s n : Bool) (at : Located) (v : Verdict) → cond s (cond n (Ok at) (Err NoPoint)) (Err NoRegister) ≡ Err refusal
          → cond s (cond n v (Err NoPoint)) (Err NoRegister) ≡ Err refusal
      go true true at v is = cc
      go true false at v is = cc
      go false n at v is = cc

  -- which aggregate's point it is
  pub aggregate-of : {at : Located} → Found m p at → aggregate_at (plant_in m) (place p) ≡ at.place - at.roster.units
  unfolding plant_in
  aggregate-of f = rw (f.roster, f.place)

-- which aggregate a place is that of, by a subtraction that may fail
module _ (roster : Roster) (i : ℕ) where
  pub refused-target : (o : Option ℕ) → SomeIff o (roster.units ≤ i) (i - roster.units) → {e : CallRefusal} → ok_or o NoPoint ≡ Err e
      → permit_target (held roster) i ≡ Err e
  refused-target None n {e} is = let same : NoPoint ≡ e = cc in rw (lt-leb roster.units i (omega arith), same)
  refused-target (Some j) f is = cc

  pub permitted-target : (o : Option ℕ) → SomeIff o (roster.units ≤ i) (i - roster.units) → {j : ℕ} → ok_or o NoPoint ≡ Ok j
      → (permit_target (held roster) i ≡ Ok tt) × (j ≡ i - roster.units)
  permitted-target None n is = cc
  permitted-target (Some k) f {j} is = let same : k ≡ j = cc in (rw (le-leb roster.units i f.0), sym same ∙ f.1)
