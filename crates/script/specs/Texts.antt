-- What is printed for each call: its name, `accepted` and what it answers, or `refused` and the number in 01.
use Rattle.std.specs.Prelude.{Bool, cond, List, [], ◌∷◌, ◌++◌, ℕ, length, Result, Ok, Err}
use Rattle.register.specs.Registers.{register_number}
use Rattle.register.specs.declared.RegisterRefusal.{RegisterRefusal}
use Rattle.targets.specs.declared.Target.{Target}
use Rattle.points.specs.Points.{span_of}
use Rattle.points.specs.declared.Reason.{Reason}
use Rattle.points.specs.declared.Reason.TheVariants.{ByOperator, BySmallRun, ByLargeRun}
use Rattle.points.specs.declared.Point.{Point}
use Rattle.intervals.specs.Assessments.{header_of, number_of}
use Rattle.intervals.specs.Intervals.{refusal_number, interval_of, report_of}
use Rattle.intervals.specs.declared.Monitor.{Monitor}
use Rattle.intervals.specs.declared.CallRefusal.{CallRefusal}
use Rattle.operators.specs.Operators.{Operator, declare, reinstate, ask, look, reason, target, operated_of, looked_of, reasoned_of, targeted_of}
use Rattle.monitor.specs.Calls.{Call, interval, operate}
use Rattle.monitor.specs.declared.Loaded.{Loaded}
use Rattle.text.specs.Numbers.{ascii}
use Rattle.text.specs.Lines.{line, lines_of, numbered_of, spanned_of, standing_of, target_line_of}

-- `load accepted VISITS`
unfoldable pub load_text : Result Loaded RegisterRefusal → List ℕ
load_text (Ok loaded) = numbered_of (ascii "load accepted") loaded.visits
load_text (Err refusal) = numbered_of (ascii "load refused") (register_number refusal)

-- a refusal of the other calls, by its number in 01
abbrev pub refused_by : List ℕ → CallRefusal → List ℕ
refused_by words refusal = numbered_of words (refusal_number refusal)

-- `interval accepted`, and the lines as the program of 01 prints them
abbrev pub accepted_text : ℕ → List ℕ → List ℕ
accepted_text interval_number report = line (ascii "interval accepted" ∷ []) ++ lines_of interval_number report

unfoldable pub interval_text : Result Monitor CallRefusal → ℕ → List ℕ → List ℕ
interval_text (Ok next) interval_number report = accepted_text interval_number report
interval_text (Err refusal) interval_number report = refused_by (ascii "interval refused") refusal

unfoldable pub declare_text : Result Monitor CallRefusal → List ℕ
declare_text (Ok next) = line (ascii "declare accepted" ∷ [])
declare_text (Err refusal) = refused_by (ascii "declare refused") refusal

unfoldable pub reinstate_text : Result Monitor CallRefusal → List ℕ
reinstate_text (Ok next) = line (ascii "reinstate accepted" ∷ [])
reinstate_text (Err refusal) = refused_by (ascii "reinstate refused") refusal

-- `look accepted STATUS SMALL LARGE LEVEL`
abbrev pub look_line : Point → List ℕ
look_line q = standing_of (ascii "look accepted") q.status q.small.count q.large.count q.level

unfoldable pub look_text : Result Point CallRefusal → List ℕ
look_text (Ok q) = look_line q
look_text (Err refusal) = refused_by (ascii "look refused") refusal

-- `reason accepted small FIRST LAST`, `reason accepted large FIRST LAST` or `reason accepted operator 0 0`
abbrev pub reason_words : Reason → List ℕ
reason_words ByOperator = ascii "reason accepted operator"
reason_words (BySmallRun span) = ascii "reason accepted small"
reason_words (ByLargeRun span) = ascii "reason accepted large"

abbrev pub reason_line : Reason → List ℕ
reason_line why = spanned_of (reason_words why) (span_of why).first (span_of why).last

unfoldable pub reason_text : Result Reason CallRefusal → List ℕ
reason_text (Ok why) = reason_line why
reason_text (Err refusal) = refused_by (ascii "reason refused") refusal

-- `target accepted TARGET RAISE LOWER KEPT`, KEPT being 1 or 0
unfoldable pub bit_of : Bool → ℕ
bit_of flag = cond flag 1 0

abbrev pub target_line : Target → List ℕ
target_line t = target_line_of (ascii "target accepted") t.target t.raise t.lower (bit_of t.complete)

unfoldable pub target_text : Result Target CallRefusal → List ℕ
target_text (Ok t) = target_line t
target_text (Err refusal) = refused_by (ascii "target refused") refusal

abbrev pub operator_text : Operator → Monitor → ℕ → List ℕ
operator_text (declare level) m p = declare_text (operated_of (declare level) m p)
operator_text reinstate m p = reinstate_text (operated_of reinstate m p)
operator_text (ask look) m p = look_text (looked_of m p)
operator_text (ask reason) m p = reason_text (reasoned_of m p)
operator_text (ask target) m p = target_text (targeted_of m p)

-- the text of a call made in a state
abbrev pub call_text : Monitor → Call → List ℕ
call_text m (interval buffer report) =
    interval_text (interval_of m buffer (length report)) (number_of (header_of buffer)) (report_of m buffer report)
call_text m (operate op p) = operator_text op m p

-- a call that cannot be read, at this byte of the file
abbrev pub error_text : ℕ → List ℕ
error_text at = numbered_of (ascii "script error at byte") at
