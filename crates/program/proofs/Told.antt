-- A step of the program shows the outcome that demand 3's lists give its interval. Assumes nothing.
use mathlib.Core.Path.{◌≡◌, refl}
use mathlib.Core.List.{List, [], ◌∷◌}
use Prim.Native.Nat.{ℕ}
use lib.ListN.{length}
use Rattle.std.specs.Prelude.{Result, Ok, Err}
use Rattle.intervals.specs.Assessments.{header_of, number_of}
use Rattle.intervals.specs.Intervals.{decide, state_after, interval_of, report_of}
use Rattle.intervals.specs.declared.Monitor.{Monitor}
use Rattle.intervals.specs.declared.CallRefusal.{CallRefusal}
use Rattle.monitor.specs.Calls.{interval, refusal, reported, next, answer}
use Rattle.text.specs.Lines.{lines_of}
use Rattle.program.specs.Steps.{blank, taken_by, taken_from, step_of}
use Rattle.program.specs.Outcomes.{shown_by}

-- by what the interval answers
shown : (r : Result Monitor CallRefusal) (m : Monitor) (buffer left : List ℕ)
    → taken_by m (lines_of (number_of (header_of buffer)) left) r ≡ shown_by (state_after m r) buffer (decide r refusal (reported left))
shown (Ok n) m buffer left = refl
shown (Err k) m buffer left = refl

-- Bytes that are not empty are one call of demand 3's lists, an interval with a blank report buffer: the step goes to the state that the
-- call leaves, prints the text of the call's outcome, and the run goes on exactly where that is not a refusal.
pub step-told : (m : Monitor) (bytes : List ℕ) → (length bytes ≡ 0 → ⊥)
    → step_of m bytes ≡ shown_by (next m (interval bytes (blank m))) bytes (answer m (interval bytes (blank m)))
unfolding step_of taken_from
step-told m [] e = absurd (e refl)
step-told m (byte ∷ bytes) e =
    let buffer = byte ∷ bytes in
    shown (interval_of m buffer (length (blank m))) m buffer (report_of m buffer (blank m))
