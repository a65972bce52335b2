-- What is printed for a call, and for a list of calls, is the text of the outcomes of demand 3. Assumes nothing.
use mathlib.Core.Path.{◌≡◌, refl, ap₂}
use mathlib.Core.List.{List, [], ◌∷◌, ◌++◌}
use Prim.Native.Nat.{ℕ}
use lib.ListN.{length}
use Rattle.std.specs.Prelude.{Result, Ok, Err}
use Rattle.trace.specs.Lists.{sights}
use Rattle.intervals.specs.Assessments.{header_of, number_of}
use Rattle.intervals.specs.Intervals.{decide, interval_of, report_of}
use Rattle.intervals.specs.declared.Monitor.{Monitor}
use Rattle.intervals.specs.declared.CallRefusal.{CallRefusal}
use Rattle.operators.specs.Operators.{declare, reinstate, ask, look, reason, target, operated_of, looked_of, reasoned_of, targeted_of}
use Rattle.monitor.specs.Calls.{Call, interval, operate, refusal, reported, done, looked, reasoned, targeted, next, answer, outcome_of, run}
use Rattle.script.specs.Texts.{interval_text, declare_text, reinstate_text, look_text, reason_text, target_text, call_text}
use Rattle.script.specs.Outcomes.{outcome_text, texts}

-- what is printed for a call is the text of its outcome
pub call-told : (m : Monitor) (c : Call) → call_text m c ≡ outcome_text c (answer m c)
unfolding interval_text declare_text reinstate_text look_text reason_text target_text
call-told m (interval buffer report) = go (interval_of m buffer (length report))
  where
    go : (r : Result Monitor CallRefusal)
        → interval_text r (number_of (header_of buffer)) (report_of m buffer report)
        ≡ outcome_text (interval buffer report) (decide r refusal (reported (report_of m buffer report)))
    go (Ok n) = refl
    go (Err k) = refl
call-told m (operate (declare level) p) = go (operated_of (declare level) m p)
  where
    go : (r : Result Monitor CallRefusal) → declare_text r ≡ outcome_text (operate (declare level) p) (outcome_of (λ after. done) r)
    go (Ok n) = refl
    go (Err k) = refl
call-told m (operate reinstate p) = go (operated_of reinstate m p)
  where
    go : (r : Result Monitor CallRefusal) → reinstate_text r ≡ outcome_text (operate reinstate p) (outcome_of (λ after. done) r)
    go (Ok n) = refl
    go (Err k) = refl
call-told m (operate (ask look) p) = go (looked_of m p)
  where
    go : (r : _) → look_text r ≡ outcome_text (operate (ask look) p) (outcome_of looked r)
    go (Ok q) = refl
    go (Err k) = refl
call-told m (operate (ask reason) p) = go (reasoned_of m p)
  where
    go : (r : _) → reason_text r ≡ outcome_text (operate (ask reason) p) (outcome_of reasoned r)
    go (Ok why) = refl
    go (Err k) = refl
call-told m (operate (ask target) p) = go (targeted_of m p)
  where
    go : (r : _) → target_text r ≡ outcome_text (operate (ask target) p) (outcome_of targeted r)
    go (Ok t) = refl
    go (Err k) = refl

-- what is printed for a list of calls is the texts of its outcomes, one after the other
pub outcomes-told : (m : Monitor) (calls : List Call) → texts m calls ≡ sights outcome_text calls (run m calls)
outcomes-told m [] = refl
outcomes-told m (c ∷ calls) = ap₂ (◌++◌ {A = ℕ}) (call-told m c) (outcomes-told (next m c) calls)
