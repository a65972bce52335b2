-- What an operator call promises of its answer, from the verdict. Assumes nothing.
use mathlib.Core.Path.{◌≡◌, refl, sym, ◌∙◌}
use mathlib.Core.Bool.{true, ◌||◌, not}
use mathlib.Core.List.{◌∷◌}
use Prim.Native.Nat.{ℕ}
use lib.Dec.{eqb}
use Rattle.std.specs.Prelude.{Result, Ok, Err}
use Rattle.std.specs.Result.{IsErrAnd}
use Rattle.plants.specs.Plants.{Plant, place}
use Rattle.points.specs.declared.Point.{Point}
use Rattle.points.specs.declared.Reason.{Reason}
use Rattle.targets.specs.declared.Target.{Target}
use Rattle.intervals.specs.Plants.{named, is_unidirectional_at}
use Rattle.intervals.specs.Monitors.{plant_in, target_at, point_at, sound_of}
use Rattle.intervals.specs.Intervals.{refusal_number, result_number, Verdict, state_after, Answered}
use Rattle.intervals.specs.declared.Monitor.{Monitor}
use Rattle.intervals.specs.declared.CallRefusal.{CallRefusal}
use Rattle.intervals.specs.declared.CallRefusal.TheVariants.{NoPoint, Level, NoRegister, Status, NotDeclared, NoReason}
use Rattle.intervals.proofs.Verdicts.{handed-on}
use Rattle.intervals.proofs.Refusals.{Goes, accepts, unless, told, without, verdict-only}
use Rattle.operators.specs.Operators.{Operator, declare, reinstate, ask, look, reason, target, allowed_level, is_aggregate_at, aggregate_at}
use Rattle.operators.specs.Operators.{permit, change, own_refusals, judge_operator, operator_verdict, operator_refusal, stored, operated_of}
use Rattle.operators.specs.Operators.{looked_of, reasoned_of, targeted_of, look_shown, look_values, Looks}
use Rattle.operators.specs.Operators.{reason_shown, reason_told, span_told, Reasons, target_shown, target_told, Targets}
use Rattle.points.specs.Points.{span_of}

module _ (plant : Plant) (i : ℕ) where
  permit-goes : (op : Operator) (q : Point) → Goes (permit plant i op q) (own_refusals plant i op q)
  unfolding permit own_refusals refusal_number
  permit-goes (declare level) q =
      unless Level (unless Status accepts (eqb q.status 2 || eqb q.status 3)) (allowed_level (is_unidirectional_at plant i) level)
  permit-goes reinstate q = unless NotDeclared accepts (eqb q.status 4)
  permit-goes (ask look) q = accepts
  permit-goes (ask reason) q = unless NoReason accepts (eqb q.status 4)
  permit-goes (ask target) q = unless NoPoint accepts (is_aggregate_at plant i)

  -- the numbers of a call's own refusals
  pub own-without : (op : Operator) (q : Point)
      → (without 0 (own_refusals plant i op q) ≡ true) × (without 20 (own_refusals plant i op q) ≡ true)
  unfolding own_refusals
  own-without (declare level) q = (refl, refl)
  own-without reinstate q = (refl, refl)
  own-without (ask look) q = (refl, refl)
  own-without (ask reason) q = (refl, refl)
  own-without (ask target) q = (refl, refl)

pub operator-goes : (plant : Plant) (op : Operator) (p : ℕ) (q : Point)
    → Goes (judge_operator plant op p q) ((10, not (named plant p)) ∷ own_refusals plant (place p) op q)
unfolding refusal_number
operator-goes plant op p q = unless NoPoint (permit-goes plant (place p) op q) (named plant p)

module _ (m : Monitor) (p : ℕ) where
  goes : (op : Operator)
      → Goes (operator_verdict op m p)
      ((20, not (sound_of m)) ∷ (10, not (named (plant_in m) p)) ∷ own_refusals (plant_in m) (place p) op (point_at m (place p)))
  unfolding operator_verdict refusal_number
  goes op = unless NoRegister (operator-goes (plant_in m) op p (point_at m (place p))) (sound_of m)

  pub operator-told : (op : Operator) → result_number (operator_verdict op m p) ≡ 0 → operator_verdict op m p ≡ Ok tt
  operator-told op = told (operator_verdict op m p)

  number-of : (op : Operator) → result_number (operator_verdict op m p) ≡ operator_refusal op m p
  unfolding operator_refusal
  number-of op = (goes op).number

  -- what declare and reinstate promise, by the verdict; refused, and accepted
  module _ (op : Operator) where
    pub operator-answered : {r : Verdict} {after : Monitor} → r ≡ operator_verdict op m p → after ≡ state_after m (operated_of op m p)
        → Answered (operated_of op m p) (operator_refusal op m p) m r after
    unfolding operated_of
    operator-answered e is = record { result = e ∙ sym (verdict-only _ _); state = is; number = rw e (number-of op) }

    pub operator-refused : {e : CallRefusal} {r : Verdict} → operator_verdict op m p ≡ Err e → IsErrAnd r (λ k. k ≡ e)
        → Answered (operated_of op m p) (operator_refusal op m p) m r m
    unfolding operated_of
    operator-refused v h = operator-answered (handed-on _ h ∙ sym v) (rw v)

    pub operator-accepted : {n : Monitor} → operator_verdict op m p ≡ Ok tt → n ≡ stored m (place p) (change op (point_at m (place p)))
        → Answered (operated_of op m p) (operator_refusal op m p) m (Ok tt) n
    unfolding operated_of
    operator-accepted v e = operator-answered (sym v) (rw (v, e))

  -- what look promises
  pub look-refused : {e : CallRefusal} {r : Result Point CallRefusal} → operator_verdict (ask look) m p ≡ Err e → IsErrAnd r (λ k. k ≡ e)
      → Looks m p r
  unfolding looked_of look_shown look_values
  look-refused v h = rw (handed-on _ h) (record { result = rw v; number = rw v at (number-of (ask look)); values = refl })

  pub look-accepted : {q : Point} → operator_verdict (ask look) m p ≡ Ok tt → q ≡ point_at m (place p) → Looks m p (Ok q)
  unfolding looked_of look_shown look_values
  look-accepted v e = record { result = rw (v, e); number = rw v at (number-of (ask look)); values = rw e }

  -- what reason promises
  pub reason-refused : {e : CallRefusal} {r : Result Reason CallRefusal} → operator_verdict (ask reason) m p ≡ Err e → IsErrAnd r (λ k. k ≡ e)
      → Reasons m p r
  unfolding reasoned_of reason_shown reason_told span_told span_of
  reason-refused v h = rw (handed-on _ h) (record { result = rw v; number = rw v at (number-of (ask reason)); told = refl; span = refl })

  pub reason-accepted : {why : Reason} → operator_verdict (ask reason) m p ≡ Ok tt → why ≡ (point_at m (place p)).reason → Reasons m p (Ok why)
  unfolding reasoned_of reason_shown reason_told span_told span_of
  reason-accepted v e = record { result = rw (v, e); number = rw v at (number-of (ask reason)); told = rw e; span = rw e }

  -- what target promises
  pub target-refused : {e : CallRefusal} {r : Result Target CallRefusal} → operator_verdict (ask target) m p ≡ Err e → IsErrAnd r (λ k. k ≡ e)
      → Targets m p r
  unfolding targeted_of target_shown target_told
  target-refused v h = rw (handed-on _ h) (record { result = rw v; number = rw v at (number-of (ask target)); told = refl })

  pub target-accepted : {t : Target} → operator_verdict (ask target) m p ≡ Ok tt → t ≡ target_at m (aggregate_at (plant_in m) (place p)) → Targets m p (Ok t)
  unfolding targeted_of target_shown target_told
  target-accepted v e = record { result = rw (v, e); number = rw v at (number-of (ask target)); told = rw e }
