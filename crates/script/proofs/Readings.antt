-- A step by the bytes that were read. Assumes nothing.
use mathlib.Core.Path.{◌≡◌, refl, sym, ap}
use mathlib.Core.List.{List, [], ◌∷◌}
use Prim.Native.Nat.{ℕ}
use native.Mathlib.Omega.{arith}
use lib.ListN.{length}
use Rattle.std.specs.Prelude.{Result, Ok, Err, ℤ}
use Rattle.std.specs.Result.{result_and}
use Rattle.intervals.specs.Assessments.{header_of, number_of}
use Rattle.intervals.specs.Intervals.{Verdict, state_after, interval_verdict, interval_of, monitor_after, report_after, report_of, decide}
use Rattle.intervals.specs.declared.CallRefusal.{CallRefusal}
use Rattle.operators.specs.Operators.{declare, reinstate, operated_of}
use Rattle.monitor.specs.Calls.{interval, operate}
use Rattle.intervals.specs.declared.Monitor.{Monitor}
use Rattle.program.specs.Steps.{ended}
use Rattle.script.specs.Items.{item_of}
use Rattle.script.specs.Texts.{interval_text, declare_text, reinstate_text}
use Rattle.script.specs.Steps.{answered, made_call, made_by, step_of}

pub step_end : (m : Monitor) (at : ℕ) (bytes : List ℕ) → length bytes ≡ 0 → step_of m at bytes ≡ ended m
unfolding step_of
step_end m at [] e = refl
step_end m at (byte ∷ bytes) e = absurd (omega arith)

pub step-item : (m : Monitor) (at : ℕ) (bytes : List ℕ) → (length bytes ≡ 0 → ⊥) → step_of m at bytes ≡ made_by m at (item_of bytes)
unfolding step_of
step-item m at [] e = absurd (e refl)
step-item m at (byte ∷ bytes) e = refl

pub interval-so : (m : Monitor) (buffer report : List ℕ) {r : Result Monitor CallRefusal} → r ≡ interval_of m buffer (length report)
    → made_call m (interval buffer report) ≡ answered (state_after m r) (interval_text r (number_of (header_of buffer)) (report_of m buffer report))
interval-so m buffer report e = rw (sym e)

pub declare-so : (m : Monitor) (level : ℤ) (p : ℕ) {r : Result Monitor CallRefusal} → r ≡ operated_of (declare level) m p
    → made_call m (operate (declare level) p) ≡ answered (state_after m r) (declare_text r)
declare-so m level p e = rw (sym e)

pub reinstate-so : (m : Monitor) (p : ℕ) {r : Result Monitor CallRefusal} → r ≡ operated_of reinstate m p
    → made_call m (operate reinstate p) ≡ answered (state_after m r) (reinstate_text r)
reinstate-so m p e = rw (sym e)

-- ---- what the report buffer held does not matter

module _ (m : Monitor) (buffer : List ℕ) where
  text-by : (v : Verdict) (r s : List ℕ)
      → interval_text (result_and v (Ok (monitor_after m buffer))) (number_of (header_of buffer)) (decide v (λ k. r) (report_after m buffer))
      ≡ interval_text (result_and v (Ok (monitor_after m buffer))) (number_of (header_of buffer)) (decide v (λ k. s) (report_after m buffer))
  unfolding interval_text
  text-by (Ok x) r s = refl
  text-by (Err k) r s = refl

  pub same-interval : (r s : List ℕ) → length r ≡ length s → made_call m (interval buffer r) ≡ made_call m (interval buffer s)
  unfolding interval_of report_of
  same-interval r s e =
      let v = interval_verdict m buffer (length s) in
      rw e (ap (λ (t : List ℕ). answered (state_after m (result_and v (Ok (monitor_after m buffer)))) t) (text-by v r s))
