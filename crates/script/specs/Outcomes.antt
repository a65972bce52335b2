-- What is printed for a call, from its outcome in demand 3's lists alone: no state goes in. `outcomes-told` of the proofs says that this
-- is what is printed, so that whatever demand 3 promises of the outcomes of a list holds of its text.
use Rattle.std.specs.Prelude.{List, [], ◌∷◌, ◌++◌, ℕ}
use Rattle.intervals.specs.Assessments.{header_of, number_of}
use Rattle.intervals.specs.declared.Monitor.{Monitor}
use Rattle.operators.specs.Operators.{Operator, declare, reinstate, ask, look, reason, target}
use Rattle.monitor.specs.Calls.{Call, interval, operate, Outcome, refusal, reported, done, looked, reasoned, targeted, next}
use Rattle.text.specs.Numbers.{ascii, decimal_of}
use Rattle.text.specs.Lines.{line, numbered_of}
use Rattle.script.specs.Texts.{accepted_text, look_line, reason_line, target_line, call_text}

-- an operator call's name in the text
abbrev pub name_of : Operator → List ℕ
name_of (declare level) = ascii "declare"
name_of reinstate = ascii "reinstate"
name_of (ask look) = ascii "look"
name_of (ask reason) = ascii "reason"
name_of (ask target) = ascii "target"

-- by the call and its outcome; nothing for an interval's outcome that is an operator call's, and the other way about
abbrev pub outcome_text : Call → Outcome → List ℕ
outcome_text (interval buffer report) (refusal k) = numbered_of (ascii "interval refused") k
outcome_text (interval buffer report) (reported bytes) = accepted_text (number_of (header_of buffer)) bytes
outcome_text (interval buffer report) done = []
outcome_text (interval buffer report) (looked q) = []
outcome_text (interval buffer report) (reasoned why) = []
outcome_text (interval buffer report) (targeted t) = []
outcome_text (operate op p) (refusal k) = line (name_of op ∷ ascii "refused" ∷ decimal_of k ∷ [])
outcome_text (operate op p) (reported bytes) = []
outcome_text (operate op p) done = line (name_of op ∷ ascii "accepted" ∷ [])
outcome_text (operate op p) (looked q) = look_line q
outcome_text (operate op p) (reasoned why) = reason_line why
outcome_text (operate op p) (targeted t) = target_line t

-- the texts of a list's calls, one after the other, each call made in the state that the call before it left
abbrev pub texts : Monitor → List Call → List ℕ
texts m [] = []
texts m (c ∷ calls) = call_text m c ++ texts (next m c) calls
