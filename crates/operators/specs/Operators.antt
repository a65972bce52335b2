-- The operator calls (01, "Report and operator calls"; 02, 2026-06 and 2026-07): what is permitted on a point's record, what it becomes, and what is
-- answered.
use Rattle.std.specs.Prelude.{◌≡◌, Bool, cond, ◌&&◌, ◌||◌, not, List, [], ◌∷◌, ℕ, ◌-◌, leb, eqb, ℤ, nat_abs, set, Result, Ok, Err}
use Rattle.std.specs.Result.{result_and}
use Rattle.trace.specs.Refusals.{Refusal, first_refusal}
use Rattle.plants.specs.Plants.{Plant, place}
use Rattle.marks.specs.Levels.{is_dispatchable}
use Rattle.targets.specs.Targets.{no_target}
use Rattle.targets.specs.declared.Target.{Target}
use Rattle.points.specs.Points.{normal, declared_at, span_of}
use Rattle.points.specs.declared.Span.{Span}
use Rattle.points.specs.declared.Reason.{Reason}
use Rattle.points.specs.declared.Reason.TheVariants.{ByOperator}
use Rattle.points.specs.declared.Point.{Point}
use Rattle.intervals.specs.Plants.{named, is_unidirectional_at}
use Rattle.intervals.specs.Monitors.{roster_in, plant_in, target_at, point_at, sound_of}
use Rattle.intervals.specs.Intervals.{Verdict, result_number}
use Rattle.intervals.specs.declared.Monitor.{Monitor}
use Rattle.intervals.specs.declared.CallRefusal.{CallRefusal}
use Rattle.intervals.specs.declared.CallRefusal.TheVariants.{NoPoint, Level, NoRegister, Status, NotDeclared, NoReason}
use Rattle.operators.specs.declared.Located.{Located}

-- what is asked of a point: nothing of the state changes. A later call that names a point and changes nothing is one case more here, and
-- one in each definition by cases on questions: what permits it, its own refusals and its reply
pub data Question : Type 0 where
  look : Question
  reason : Question
  target : Question

pub data Operator : Type 0 where
  declare : (level : ℤ) → Operator
  reinstate : Operator
  ask : Question → Operator

-- 11: "level beyond ±128,000,000", and for the point of a unit of kind 1, 2 or 4 "An operator's negative level for such a unit is refused with
-- 11" (02, 2026-02)
unfoldable pub allowed_level : Bool → ℤ → Bool
allowed_level unidirectional level = leb (nat_abs level) 128000000 && is_dispatchable unidirectional level

-- 22: "declare on status other than 2 or 3"
abbrev pub permit_declare : Bool → ℤ → Point → Verdict
permit_declare unidirectional level q =
    cond (allowed_level unidirectional level) (cond (eqb q.status 2 || eqb q.status 3) (Ok tt) (Err Status)) (Err Level)

-- 23: "reinstate on status other than 4"; 36: "point not declared" (02, 2026-06)
abbrev pub permit_declared : CallRefusal → Point → Verdict
permit_declared refusal q = cond (eqb q.status 4) (Ok tt) (Err refusal)

-- 10: "the point of a unit falls under 10 here" (02, 2026-07). Which aggregate a place is that of is counted from 0
abbrev pub is_aggregate_at : Plant → ℕ → Bool
is_aggregate_at plant i = leb plant.units i

abbrev pub permit_target : Plant → ℕ → Verdict
permit_target plant i = cond (is_aggregate_at plant i) (Ok tt) (Err NoPoint)

abbrev pub aggregate_at : Plant → ℕ → ℕ
aggregate_at plant i = i - plant.units

-- what is permitted on the record of the point at a place
unfoldable pub permit : Plant → ℕ → Operator → Point → Verdict
permit plant i (declare level) q = permit_declare (is_unidirectional_at plant i) level q
permit plant i reinstate q = permit_declared NotDeclared q
permit plant i (ask look) q = Ok tt
permit plant i (ask reason) q = permit_declared NoReason q
permit plant i (ask target) q = permit_target plant i

-- "Declare (point, level): status 4, declared at that level, runs 0. Reinstate (point): status 0, runs 0, level 0"
unfoldable pub change : Operator → Point → Point
change (declare level) q = declared_at level ByOperator
change reinstate q = normal
change (ask question) q = q

-- 10 goes before what the record says, 20 before all
abbrev pub judge_operator : Plant → Operator → ℕ → Point → Verdict
judge_operator plant op p q = cond (named plant p) (permit plant (place p) op q) (Err NoPoint)

-- 20 and 10, which every operator call is tested for: the roster of a state that passes, and the place of a point that it names
unfoldable pub locate_of : Monitor → ℕ → Result Located CallRefusal
locate_of m p =
    cond (sound_of m) (cond (named (plant_in m) p) (Ok (record { roster = roster_in m; place = place p })) (Err NoPoint)) (Err NoRegister)

unfoldable pub operator_verdict : Operator → Monitor → ℕ → Verdict
operator_verdict op m p = cond (sound_of m) (judge_operator (plant_in m) op p (point_at m (place p))) (Err NoRegister)

-- a call's own refusals, on the record of the point that it names: "the list above in rising number", here 10 and 11, "then these", here 22, 23
-- and 36
unfoldable pub own_refusals : Plant → ℕ → Operator → Point → List Refusal
own_refusals plant i (declare level) q =
    (11, not (allowed_level (is_unidirectional_at plant i) level)) ∷ (22, not (eqb q.status 2 || eqb q.status 3)) ∷ []
own_refusals plant i reinstate q = (23, not (eqb q.status 4)) ∷ []
own_refusals plant i (ask look) q = []
own_refusals plant i (ask reason) q = (36, not (eqb q.status 4)) ∷ []
own_refusals plant i (ask target) q = (10, not (is_aggregate_at plant i)) ∷ []

-- the number of the first refusal that applies, 0 where none does: "Order: 20, then the list above in rising number", here 10, then the
-- call's own
unfoldable pub operator_refusal : Operator → Monitor → ℕ → ℕ
operator_refusal op m p =
    first_refusal
    ((20, not (sound_of m))
    ∷ (10, not (named (plant_in m) p))
    ∷ own_refusals (plant_in m) (place p) op (point_at m (place p)))

-- the state with one point's record written
unfoldable pub stored : Monitor → ℕ → Point → Monitor
stored m i q =
    record {
      roster = m.roster;
      last = m.last;
      kept = m.kept;
      targets = m.targets;
      points = set m.points i q;
    }

unfoldable pub operated_of : Operator → Monitor → ℕ → Result Monitor CallRefusal
operated_of op m p = result_and (operator_verdict op m p) (Ok (stored m (place p) (change op (point_at m (place p)))))

abbrev pub declare_of : Monitor → ℕ → ℤ → Result Monitor CallRefusal
declare_of m p level = operated_of (declare level) m p

abbrev pub reinstate_of : Monitor → ℕ → Result Monitor CallRefusal
reinstate_of m p = operated_of reinstate m p

-- "Look (point): status, runs, level". A look changes nothing
unfoldable pub looked_of : Monitor → ℕ → Result Point CallRefusal
looked_of m p = result_and (operator_verdict (ask look) m p) (Ok (point_at m (place p)))

-- "A new call on a declared point returns small run, large run or operator" (02, 2026-06). It changes nothing, "like a look"
unfoldable pub reasoned_of : Monitor → ℕ → Result Reason CallRefusal
reasoned_of m p = result_and (operator_verdict (ask reason) m p) (Ok (point_at m (place p)).reason)

-- "A new call on the aggregate's point returns them" (02, 2026-07), the sums and the flag. It changes nothing
unfoldable pub targeted_of : Monitor → ℕ → Result Target CallRefusal
targeted_of m p = result_and (operator_verdict (ask target) m p) (Ok (target_at m (aggregate_at (plant_in m) (place p))))

-- the record that a look tells, status, runs and level: zero values where it is refused
unfoldable pub look_shown : Result Point CallRefusal → Point
look_shown (Ok shown) = shown
look_shown (Err k) = normal

-- the values of a look: the point's own, "zero values" where it is refused
unfoldable pub look_values : Result Point CallRefusal → Point → Point
look_values (Ok shown) q = q
look_values (Err k) q = normal

-- what look promises
pub record Looks (m : Monitor) (p : ℕ) (r : Result Point CallRefusal) : Type 0 where
  pub result : r ≡ looked_of m p
  pub number : result_number r ≡ operator_refusal (ask look) m p
  pub values : look_shown r ≡ look_values r (point_at m (place p))

-- the reason that is told; the operator, whose numbers are both 0, where the call is refused
unfoldable pub reason_shown : Result Reason CallRefusal → Reason
reason_shown (Ok why) = why
reason_shown (Err k) = ByOperator

-- the reason that has to be told, and its two numbers
unfoldable pub reason_told : Result Reason CallRefusal → Point → Reason
reason_told (Ok why) q = q.reason
reason_told (Err k) q = ByOperator

unfoldable pub span_told : Result Reason CallRefusal → Point → Span
span_told (Ok why) q = span_of q.reason
span_told (Err k) q = record { first = 0; last = 0 }

-- what reason promises
pub record Reasons (m : Monitor) (p : ℕ) (r : Result Reason CallRefusal) : Type 0 where
  pub result : r ≡ reasoned_of m p
  pub number : result_number r ≡ operator_refusal (ask reason) m p
  pub told : reason_shown r ≡ reason_told r (point_at m (place p))
  pub span : span_of (reason_shown r) ≡ span_told r (point_at m (place p))

-- the target that is told; zeros and false where the call is refused
unfoldable pub target_shown : Result Target CallRefusal → Target
target_shown (Ok t) = t
target_shown (Err k) = no_target

-- the target that has to be told
unfoldable pub target_told : Result Target CallRefusal → Target → Target
target_told (Ok told) t = t
target_told (Err k) t = no_target

-- what target promises
pub record Targets (m : Monitor) (p : ℕ) (r : Result Target CallRefusal) : Type 0 where
  pub result : r ≡ targeted_of m p
  pub number : result_number r ≡ operator_refusal (ask target) m p
  pub told : target_shown r ≡ target_told r (target_at m (aggregate_at (plant_in m) (place p)))
