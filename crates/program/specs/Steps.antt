-- A step of the program (01, "The program"): from the state and the bytes that were read to the next state, whether the run goes on,
-- and the text to write. What is left to the program is to read, to write and to go on.
use Rattle.std.specs.Prelude.{true, false, List, [], ◌∷◌, ℕ, ◌+◌, ◌*◌, min, length, replicate, Result, Ok, Err}
use Rattle.turns.specs.Steps.{Outcome as Turned}
use Rattle.register.specs.Registers.{register_number}
use Rattle.register.specs.declared.RegisterRefusal.{RegisterRefusal}
use Rattle.intervals.specs.Plants.{total}
use Rattle.intervals.specs.Assessments.{header_of, number_of}
use Rattle.intervals.specs.Monitors.{roster_in, plant_in, unloaded}
use Rattle.intervals.specs.Intervals.{refusal_number, interval_of, report_of}
use Rattle.intervals.specs.declared.Monitor.{Monitor}
use Rattle.intervals.specs.declared.CallRefusal.{CallRefusal}
use Rattle.monitor.specs.Loading.{load_of}
use Rattle.monitor.specs.declared.Loaded.{Loaded}
use Rattle.text.specs.Lines.{lines_of, refused_of}

-- what a step comes to
abbrev pub Outcome : Type 0
Outcome = Turned Monitor

-- an accepted call goes on from the state that it leaves
abbrev pub accepted : Monitor → List ℕ → Outcome
accepted m text = record { state = m; more = true; text = text }

-- "A refusal prints `refused`, a space and its number, and ends the run": by the number in 01
abbrev pub refused : Monitor → ℕ → Outcome
refused m number = record { state = m; more = false; text = refused_of number }

-- "It reads `register.bin`": an accepted register prints nothing
abbrev pub started_by : Result Loaded RegisterRefusal → Outcome
started_by (Ok loaded) = accepted loaded.monitor []
started_by (Err refusal) = refused unloaded (register_number refusal)

unfoldable pub start_of : List ℕ → Outcome
start_of bytes = started_by (load_of bytes)

-- a report buffer of 16(n+m) bytes
abbrev pub blank : Monitor → List ℕ
blank m = replicate (16 * total (plant_in m)) 0

-- an interval, from the text of its report: an accepted one prints it
abbrev pub taken_by : Monitor → List ℕ → Result Monitor CallRefusal → Outcome
taken_by m text (Ok next) = accepted next text
taken_by m text (Err refusal) = refused m (refusal_number refusal)

-- an interval with a report buffer
unfoldable pub taken_from : Monitor → List ℕ → List ℕ → Outcome
taken_from m buffer report =
    taken_by m (lines_of (number_of (header_of buffer)) (report_of m buffer report)) (interval_of m buffer (length report))

-- "then `intervals.bin` buffer after buffer": nothing was read at its end, and a short buffer "is passed on as it is"
abbrev pub ended : Monitor → Outcome
ended m = record { state = m; more = false; text = [] }

unfoldable pub step_of : Monitor → List ℕ → Outcome
step_of m [] = ended m
step_of m (byte ∷ bytes) = taken_from m (byte ∷ bytes) (blank m)

-- how many bytes the program reads for an interval: 8 + 40n. No register has more than 64 units
abbrev pub size_of : Monitor → ℕ
size_of m = 8 + 40 * min 64 (roster_in m).units

-- what the code gives a report: as many as a sound state has points for
abbrev pub room_of : Monitor → ℕ
room_of m = 16 * (min 64 (roster_in m).units + min 16 (roster_in m).aggregates)
