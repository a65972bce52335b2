-- Lists of calls (01, "Whole lists of calls"): the first call is given a state, every later one the state that the call before it
-- left, accepted or refused. Each step is by the definitions that the calls' contracts cite.
use Rattle.std.specs.Prelude.{List, ℕ, length, Result, Ok, Err}
use Rattle.trace.specs.Lists.{fold, outcomes}
use Rattle.targets.specs.declared.Target.{Target}
use Rattle.points.specs.declared.Reason.{Reason}
use Rattle.points.specs.declared.Point.{Point}
use Rattle.intervals.specs.Intervals.{refusal_number, decide, state_after, interval_of, report_of}
use Rattle.intervals.specs.declared.Monitor.{Monitor}
use Rattle.intervals.specs.declared.CallRefusal.{CallRefusal}
use Rattle.operators.specs.Operators.{Operator, declare, reinstate, ask, look, reason, target, operated_of, looked_of, reasoned_of, targeted_of}

-- an interval with the report buffer as it stood, or an operator call that names a point
pub data Call : Type 0 where
  interval : (buffer report : List ℕ) → Call
  operate : Operator → (point : ℕ) → Call

-- a refusal's number, the report's bytes, or the answer to an operator call: of a look all that it shows of the point
pub data Outcome : Type 0 where
  refusal : ℕ → Outcome
  reported : List ℕ → Outcome
  done : Outcome
  looked : Point → Outcome
  reasoned : Reason → Outcome
  targeted : Target → Outcome

-- by the point's record and, of an aggregate's point, what is kept with it
abbrev pub reply : Operator → Point → Target → Outcome
reply (declare level) q t = done
reply reinstate q t = done
reply (ask look) q t = looked q
reply (ask reason) q t = reasoned q.reason
reply (ask target) q t = targeted t

-- the state after a call: the one that it leaves, or the one that it was lent where it is refused or asks
abbrev pub next_by : Operator → Monitor → ℕ → Monitor
next_by (declare level) m p = state_after m (operated_of (declare level) m p)
next_by reinstate m p = state_after m (operated_of reinstate m p)
next_by (ask question) m p = m

abbrev pub next : Monitor → Call → Monitor
next m (interval buffer report) = state_after m (interval_of m buffer (length report))
next m (operate op p) = next_by op m p

-- a refusal's number, or what is made of the value that a call answers
abbrev pub outcome_of : {A : Type 0} → (A → Outcome) → Result A CallRefusal → Outcome
outcome_of told (Ok a) = told a
outcome_of told (Err k) = refusal (refusal_number k)

-- what a call answers, and for an interval what it leaves in the report
abbrev pub answer_by : Operator → Monitor → ℕ → Outcome
answer_by (declare level) m p = outcome_of (λ after. done) (operated_of (declare level) m p)
answer_by reinstate m p = outcome_of (λ after. done) (operated_of reinstate m p)
answer_by (ask look) m p = outcome_of looked (looked_of m p)
answer_by (ask reason) m p = outcome_of reasoned (reasoned_of m p)
answer_by (ask target) m p = outcome_of targeted (targeted_of m p)

abbrev pub answer : Monitor → Call → Outcome
answer m (interval buffer report) = decide (interval_of m buffer (length report)) refusal (reported (report_of m buffer report))
answer m (operate op p) = answer_by op m p

abbrev pub after : Monitor → List Call → Monitor
after = fold next

abbrev pub run : Monitor → List Call → List Outcome
run = outcomes next answer
