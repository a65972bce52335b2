-- A step through a list of calls in a file: from the state and the bytes that were read to the next state, whether the run goes on,
-- and the text to write.
use Rattle.std.specs.Prelude.{true, false, List, [], ◌∷◌, ℕ}
use Rattle.intervals.specs.declared.Monitor.{Monitor}
use Rattle.monitor.specs.Loading.{load_of, state_loaded}
use Rattle.monitor.specs.Calls.{Call, next}
use Rattle.program.specs.Steps.{Outcome, ended}
use Rattle.script.specs.Items.{Item, unreadable, loads, calls, item_of}
use Rattle.script.specs.Texts.{load_text, call_text, error_text}

abbrev pub unread : Monitor → ℕ → Outcome
unread m at = record { state = m; more = false; text = error_text at }

-- a call that is answered goes on
abbrev pub answered : Monitor → List ℕ → Outcome
answered m text = record { state = m; more = true; text = text }

abbrev pub made_load : Monitor → List ℕ → Outcome
made_load m register = answered (state_loaded m (load_of register)) (load_text (load_of register))

abbrev pub made_call : Monitor → Call → Outcome
made_call m c = answered (next m c) (call_text m c)

abbrev pub made_by : Monitor → ℕ → Item → Outcome
made_by m at unreadable = unread m at
made_by m at (loads register) = made_load m register
made_by m at (calls c) = made_call m c

-- nothing was read at the end of the list; a call that cannot be read ends the run
unfoldable pub step_of : Monitor → ℕ → List ℕ → Outcome
step_of m at [] = ended m
step_of m at (byte ∷ bytes) = made_by m at (item_of (byte ∷ bytes))
