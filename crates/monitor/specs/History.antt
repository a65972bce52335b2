-- What has happened, worked out from the plant and the calls alone, first call to last (01, "Whole lists of calls"): "nothing from
-- the monitor's state or answers goes in". Runs do not stop at 255, have the number of their first mark,
-- and go on while a point is declared.
use Rattle.std.specs.Prelude.{Bool, true, false, cond, ◌&&◌, not, List, ℕ, ℤ, pos, length, Option, Some, None, Ok, Err}
use Rattle.trace.specs.Sweeps.{records}
use Rattle.trace.specs.Lists.{fold, updated, below}
use Rattle.plants.specs.Plants.{Plant, place}
use Rattle.marks.specs.KeptLines.{kept_from}
use Rattle.marks.specs.declared.Kept.{Kept}
use Rattle.marks.specs.declared.Assessment.{Assessment}
use Rattle.points.specs.Points.{no_run, small_after, large_after, stored_run, reason_of, declared_at, reaches, status_of, declares}
use Rattle.targets.specs.Targets.{target_of}
use Rattle.points.specs.Records.{record_of}
use Rattle.points.specs.declared.Reason.{Reason}
use Rattle.points.specs.declared.Reason.TheVariants.{ByOperator}
use Rattle.points.specs.declared.Run.{Run}
use Rattle.points.specs.declared.Point.{Point}
use Rattle.intervals.specs.Plants.{total, named, is_unidirectional_at}
use Rattle.intervals.specs.Assessments.{header_of, number_of, mask_of, automatic_at, rule_of, line_at, is_fresh, assessment_at}
use Rattle.intervals.specs.Intervals.{Verdict, decide, judge_interval}
use Rattle.intervals.specs.declared.CallRefusal.TheVariants.{NoPoint, Level, Status, NotDeclared, NoReason}
use Rattle.operators.specs.Operators.{Operator, declare, reinstate, ask, look, reason, target, allowed_level, permit_target, aggregate_at}
use Rattle.monitor.specs.Calls.{Call, interval, operate, Outcome, refusal, reported, reply}

-- whether a declaration stands, at which level and for which reason
pub data Standing : Type 0 where
  undeclared : Standing
  declared : (level : ℤ) → Reason → Standing

abbrev pub is_declared : Standing → Bool
is_declared undeclared = false
is_declared (declared level why) = true

-- one point: its runs, whether a declaration stands, and whether the last interval accepted was automatic for it
pub record Past : Type 0 where
  pub small : Run
  pub large : Run
  pub standing : Standing
  pub automatic : Bool

-- the number of the last interval accepted, where one was, each unit's kept line, and each point, by place
pub record History : Type 0 where
  pub last : Option ℕ
  pub kept : ℕ → Option Kept
  pub points : ℕ → Past

-- "At the start no interval is accepted, nothing is kept and runs are 0"
abbrev pub untouched : Past
untouched = record { small = no_run; large = no_run; standing = undeclared; automatic = false }

abbrev pub begin : History
begin = record { last = None; kept = λ i. None; points = λ i. untouched }

-- ---- an accepted interval

-- "A declared point is not declared again"
abbrev pub standing_after : Bool → ℤ → Reason → Standing → Standing
standing_after event level why (declared earlier before) = declared earlier before
standing_after true level why undeclared = declared level why
standing_after false level why undeclared = undeclared

-- "SMALL adds 1 to the small run and sets the large run to 0; LARGE adds 1 to both; OFF and CLEAR set both to 0; BLANK and DOUBT
-- change neither", and a mark that brings a run to its length declares
abbrev pub marked : Plant → Bool → ℕ → Assessment → Past → Past
marked plant automatic number a q =
    let rule = rule_of plant automatic in
    let small = small_after a.mark number q.small in
    let large = large_after a.mark number q.large in
    record {
      small = small;
      large = large;
      standing =
          standing_after (declares rule a.mark small.count large.count) a.level (reason_of rule number small large) q.standing;
      automatic = automatic;
    }

-- "An accepted one marks every point from its lines and the lines kept before it"
abbrev pub assessment_then : Plant → History → List ℕ → ℕ → Assessment
assessment_then plant h buffer i =
    assessment_at plant buffer (is_fresh h.last (number_of (header_of buffer))) h.kept i

-- ---- operator calls

-- "Declare is accepted when 10 and 11 do not apply, demand 3's rule over the calls before it finds the point not declared, and its
-- small run is Ns or more or its large run Nl or more. Reinstate is accepted when 10 does not apply and that rule finds the point
-- declared"; and so is the call for the reason, 36 "after 10" (02, 2026-06). The call for the target is accepted on an aggregate's point
-- (02, 2026-07)
unfoldable pub permitted : Plant → ℕ → Operator → Past → Verdict
permitted plant i (declare level) q =
    cond (allowed_level (is_unidirectional_at plant i) level)
    (cond (
    not (is_declared q.standing)
    && reaches plant.small.not_responding plant.large.not_responding q.small.count q.large.count
    )
    (Ok tt)
    (Err Status))
    (Err Level)
permitted plant i reinstate q = cond (is_declared q.standing) (Ok tt) (Err NotDeclared)
permitted plant i (ask look) q = Ok tt
permitted plant i (ask reason) q = cond (is_declared q.standing) (Ok tt) (Err NoReason)
permitted plant i (ask target) q = permit_target plant i

-- reinstatement "sets both runs to 0". No operator call changes a mode
abbrev pub changed : Operator → Past → Past
changed (declare level) q = record { small = q.small; large = q.large; standing = declared level ByOperator; automatic = q.automatic }
changed reinstate q = record { small = no_run; large = no_run; standing = undeclared; automatic = q.automatic }
changed (ask question) q = q

-- ---- a call

-- "An interval is accepted unless 8, 9 or 21 applies, 21 looking at the intervals accepted earlier in the list"
abbrev pub verdict : Plant → History → Call → Verdict
verdict plant h (interval buffer report) =
    judge_interval plant h.last (header_of buffer) (length buffer) (length report)
verdict plant h (operate op p) =
    cond (named plant p) (permitted plant (place p) op (h.points (place p))) (Err NoPoint)

abbrev pub effect : Plant → History → Call → History
effect plant h (interval buffer report) =
    let header = header_of buffer in
    record {
      last = Some (number_of header);
      kept = below plant.units (λ i. kept_from (line_at plant buffer i)) h.kept;
      points =
          below (total plant)
          (λ i. marked plant (automatic_at plant (mask_of header) i) (number_of header) (assessment_then plant h buffer i) (h.points i))
          h.points;
    }
effect plant h (operate op p) =
    record {
      last = h.last;
      kept = h.kept;
      points = updated (place p) (changed op (h.points (place p))) h.points;
    }

-- "Look, and any refused call, changes nothing here", and "like a look" the calls for the reason and for the target
abbrev pub extend : Plant → History → Call → History
extend plant h c = decide (verdict plant h c) (λ k. h) (effect plant h c)

abbrev pub history : Plant → List Call → History
history plant = fold (extend plant) begin

-- ---- what is seen of it

-- the record that a look answers and a report holds: runs stop at 255 and are 0 while declared, and the status is that of the mode
-- that the last accepted interval had for the point
abbrev pub shown_as : Plant → Bool → Run → Run → Standing → Point
shown_as plant automatic small large undeclared =
    record {
      status = status_of (rule_of plant automatic) small.count large.count;
      small = stored_run small;
      large = stored_run large;
      level = pos 0;
      reason = ByOperator;
    }
shown_as plant automatic small large (declared level why) = declared_at level why

abbrev pub shown : Plant → Past → Point
shown plant q = shown_as plant q.automatic q.small q.large q.standing

-- the report of an interval that is accepted, by the history before it
abbrev pub report_then : Plant → History → List ℕ → List ℕ → List ℕ
report_then plant h buffer report =
    let then = effect plant h (interval buffer report) in
    records (λ i. record_of (assessment_then plant h buffer i) (shown plant (then.points i))) (total plant)

-- the outcome of a call, by the history before it. An aggregate's target is what the lines that its units last sent add up to: no history of
-- its own stands beside them
abbrev pub foretold : Plant → History → Call → Outcome
foretold plant h (interval buffer report) =
    decide (verdict plant h (interval buffer report)) refusal (reported (report_then plant h buffer report))
foretold plant h (operate op p) =
    decide (verdict plant h (operate op p)) refusal
    (reply op (shown plant (h.points (place p))) (target_of plant h.kept (aggregate_at plant (place p))))
