-- What a step comes to, by the answer of its call, and why the report buffer's old bytes do not matter. Assumes nothing.
use mathlib.Core.Path.{◌≡◌, refl, sym, ◌∙◌}
use mathlib.Core.Bool.{Bool, true, false, cond}
use mathlib.Core.List.{List, [], ◌∷◌}
use Prim.Native.Nat.{ℕ, ◌*◌, ◌≤◌}
use native.Mathlib.Omega.{arith}
use lib.ListN.{length, length-replicate}
use lib.Seq.{take-take}
use Rattle.std.specs.Prelude.{Result, Ok, Err}
use Rattle.std.specs.Result.{result_and}
use Rattle.wire.specs.Fields.{word_at, field_at}
use Rattle.intervals.specs.Plants.{total}
use Rattle.intervals.specs.Assessments.{header_of, number_of}
use Rattle.intervals.specs.Monitors.{plant_in, sound_of}
use Rattle.intervals.specs.Intervals.{Verdict, judge_interval, interval_verdict, interval_of, monitor_after, report_after, report_of, decide, Ready}
use Rattle.intervals.specs.declared.Monitor.{Monitor}
use Rattle.intervals.specs.declared.CallRefusal.{CallRefusal}
use Rattle.intervals.specs.declared.CallRefusal.TheVariants.{NoRegister}
use Rattle.intervals.proofs.States.{units_small, aggregates-small}
use Rattle.intervals.proofs.Verdicts.{taken, ready, report-size}
use Rattle.register.specs.declared.RegisterRefusal.{RegisterRefusal}
use Rattle.monitor.specs.Loading.{load_of}
use Rattle.monitor.specs.declared.Loaded.{Loaded}
use Rattle.text.specs.Lines.{lines_of}
use Rattle.program.specs.Steps.{started_by, start_of, ended, blank, room_of, taken_by, taken_from, step_of}

-- ---- by the answer of a call

pub start-so : (bytes : List ℕ) {r : Result Loaded RegisterRefusal} → r ≡ load_of bytes → start_of bytes ≡ started_by r
unfolding start_of
start-so bytes e = rw e

pub taken-so : (m : Monitor) (buffer report : List ℕ) {r : Result Monitor CallRefusal} → r ≡ interval_of m buffer (length report)
    → taken_from m buffer report ≡ taken_by m (lines_of (number_of (header_of buffer)) (report_of m buffer report)) r
unfolding taken_from
taken-so m buffer report e = rw (sym e)

-- ---- an accepted interval

module _ (m next : Monitor) (buffer report : List ℕ) (is : Ok next ≡ interval_of m buffer (length report)) where
  -- it has a header
  tested : Ready m buffer
  unfolding interval_of
  tested = ready m buffer (length report) (taken (interval_verdict m buffer (length report)) next (monitor_after m buffer) is).0

  pub header-inside : 4 ≤ length buffer
  header-inside = omega (arith, tested.lines)

  -- whose number is the first word of its buffer
  pub number-read : number_of (header_of buffer) ≡ word_at buffer 0
  unfolding field_at
  number-read = rw (take-take 4 8 buffer (omega arith))

  -- and the report of a sound state
  pub accepted-size : length report ≤ 1280
  unfolding interval_of plant_in
  accepted-size =
      let verdict = (taken (interval_verdict m buffer (length report)) next (monitor_after m buffer) is).0 in
      omega (arith, report-size m buffer (length report) verdict, units_small m tested.sound, aggregates-small m tested.sound)

-- ---- the report buffer

module _ (m : Monitor) (buffer : List ℕ) where
  -- where no register is loaded nothing is looked at
  same-verdict : (a b : ℕ) → (sound_of m ≡ true → a ≡ b) → interval_verdict m buffer a ≡ interval_verdict m buffer b
  unfolding interval_verdict
  same-verdict a b h = go (sound_of m) h
    where
      go : (s : Bool) → (s ≡ true → a ≡ b)
          → cond s (judge_interval (plant_in m) m.last (header_of buffer) (length buffer) a) (Err NoRegister)
          ≡ cond s (judge_interval (plant_in m) m.last (header_of buffer) (length buffer) b) (Err NoRegister)
      go true h = rw (h refl)
      go false h = refl

  same-taken-by : (v : Verdict) (r s : List ℕ)
      → taken_by m (lines_of (number_of (header_of buffer)) (decide v (λ k. r) (report_after m buffer))) (result_and v (Ok (monitor_after m buffer)))
      ≡ taken_by m (lines_of (number_of (header_of buffer)) (decide v (λ k. s) (report_after m buffer))) (result_and v (Ok (monitor_after m buffer)))
  same-taken-by (Ok x) r s = refl
  same-taken-by (Err k) r s = refl

  pub same_taken : (r s : List ℕ) → (sound_of m ≡ true → length r ≡ length s) → taken_from m buffer r ≡ taken_from m buffer s
  unfolding taken_from interval_of report_of
  same_taken r s h = rw (same-verdict (length r) (length s) h) (same-taken-by (interval_verdict m buffer (length s)) r s)

-- ---- the bytes that were read

-- a sound state has no more points than the code has room for
room-is : (m : Monitor) → sound_of m ≡ true → room_of m ≡ 16 * total (plant_in m)
unfolding plant_in
room-is m sound = omega (arith, units_small m sound, aggregates-small m sound)

pub stepped-end : (m : Monitor) (buffer : List ℕ) → length buffer ≡ 0 → step_of m buffer ≡ ended m
unfolding step_of
stepped-end m [] e = refl
stepped-end m (byte ∷ bytes) e = absurd (omega arith)

pub stepped-taken : (m : Monitor) (buffer report : List ℕ) → (length buffer ≡ 0 → ⊥) → length report ≡ room_of m
    → step_of m buffer ≡ taken_from m buffer report
unfolding step_of
stepped-taken m [] report e h = absurd (e refl)
stepped-taken m (byte ∷ bytes) report e h =
    sym
    (same_taken m (byte ∷ bytes) report (blank m) λ sound. h ∙ room-is m sound ∙ sym (length-replicate (16 * total (plant_in m)) 0))
