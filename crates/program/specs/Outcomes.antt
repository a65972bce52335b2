-- What a step of the program comes to, from the outcome of its interval in demand 3's lists. `step-told` of the proofs says that this is
-- what the step comes to, so that whatever demand 3 promises of an interval's outcome holds of what is printed for it.
use Rattle.std.specs.Prelude.{Bool, true, false, List, [], ℕ}
use Rattle.intervals.specs.Assessments.{header_of, number_of}
use Rattle.intervals.specs.declared.Monitor.{Monitor}
use Rattle.monitor.specs.Calls.{Outcome, refusal, reported, done, looked, reasoned, targeted}
use Rattle.text.specs.Lines.{lines_of, refused_of}
use Rattle.program.specs.Steps.{Outcome as Step}

-- "A refusal prints `refused`, a space and its number", and a report its lines, under the number in the buffer's header. Nothing for an
-- outcome that an interval cannot have
abbrev pub program_text : List ℕ → Outcome → List ℕ
program_text buffer (refusal k) = refused_of k
program_text buffer (reported report) = lines_of (number_of (header_of buffer)) report
program_text buffer done = []
program_text buffer (looked q) = []
program_text buffer (reasoned why) = []
program_text buffer (targeted t) = []

-- whether the run goes on after an outcome: a refusal "ends the run", and no other outcome does
abbrev pub goes_on : Outcome → Bool
goes_on (refusal k) = false
goes_on (reported report) = true
goes_on done = true
goes_on (looked q) = true
goes_on (reasoned why) = true
goes_on (targeted t) = true

-- a step that comes to a next state, after a buffer with this outcome
abbrev pub shown_by : Monitor → List ℕ → Outcome → Step
shown_by m buffer outcome = record { state = m; more = goes_on outcome; text = program_text buffer outcome }
