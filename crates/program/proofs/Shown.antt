-- What the text of a report shows: the very values of each point that 01 names. Assumes nothing.
use mathlib.Core.Path.{◌≡◌, refl, ap, ◌∙◌}
use mathlib.Core.Bool.{true}
use mathlib.Core.List.{List, [], ◌∷◌}
use Prim.Native.Nat.{ℕ, suc, ◌/◌, ◌^◌, ◌<◌}
use native.Mathlib.Nat.{mod-eq_of_lt}
use native.Mathlib.Omega.{arith}
use lib.IntN.{ℤ}
use lib.ListN.{length}
use mir.Syntax.{w32}
use mir.Val.{SFits, to_z, of_z}
use mir.ValLaws.{to_z-of_z, of_z_fits}
use Rattle.trace.specs.Sweeps.{records}
use Rattle.trace.proofs.Sweeps.{length-records, record-at, records-same}
use Rattle.wire.specs.Fields.{number_of, bytes_of, field_at}
use Rattle.wire.proofs.Laws.{number-bytes}
use Rattle.marks.specs.Hosts.{mark_number}
use Rattle.marks.specs.declared.Assessment.{Assessment}
use Rattle.points.specs.Records.{record_of}
use Rattle.points.specs.declared.Point.{Point}
use Rattle.points.proofs.Lengths16.{length-record}
use Rattle.intervals.specs.Plants.{total}
use Rattle.intervals.specs.Assessments.{header_of, number_of as interval_number}
use Rattle.intervals.specs.Monitors.{plant_in, point_at}
use Rattle.intervals.specs.Intervals.{Verdict, interval_verdict, interval_of, assessment_in, point_after, record_after, report_of}
use Rattle.intervals.specs.declared.Monitor.{Monitor}
use Rattle.std.specs.Prelude.{Ok, Err}
use Rattle.std.specs.Result.{result_and}
use Rattle.intervals.proofs.Verdicts.{ready}
use Rattle.text.specs.Numbers.{decimal_of, whole_of}
use Rattle.text.specs.Lines.{line, line_of, line_at, lines_of}
use Rattle.program.specs.Steps.{blank, taken_by, taken_from, step_of}
use Rattle.program.proofs.Held.{Held, held_in}

-- "interval, point, then status, mark, small run, large run, error, trigger, level, with one space between"
abbrev pub shown_of : ℕ → ℕ → Assessment → Point → List ℕ
shown_of interval point a p =
    line (
    decimal_of interval
    ∷ decimal_of point
    ∷ decimal_of p.status
    ∷ decimal_of (mark_number a.mark)
    ∷ decimal_of p.small.count
    ∷ decimal_of p.large.count
    ∷ whole_of a.error
    ∷ decimal_of a.trigger
    ∷ whole_of p.level
    ∷ []
    )

-- four bytes that were written, read again
word_back : (n : ℕ) → n < 2 ^ 32 → number_of (bytes_of 4 n) ≡ n
word_back n l = number-bytes 4 n ∙ mod-eq_of_lt l

whole_back : (z : ℤ) → SFits w32 z → to_z w32 (number_of (bytes_of 4 (of_z w32 z))) ≡ z
whole_back z f = ap (to_z w32) (word_back (of_z w32 z) (of_z_fits w32 z f).fits) ∙ to_z-of_z w32 z f

-- the line made of a point's 16 bytes shows the point's values
pub line-shown : (interval point : ℕ) (a : Assessment) (p : Point) → Held a p → line_of interval point (record_of a p) ≡ shown_of interval point a p
unfolding line_of record_of field_at bytes_of
line-shown interval point a p held =
    rw (whole_back a.error held.error, word_back a.trigger held.trigger, whole_back p.level held.level)

-- the lines of a report show each point's values, point after point
pub lines-shown : (interval k : ℕ) (a : ℕ → Assessment) (p : ℕ → Point) → ((i : ℕ) → i < k → Held (a i) (p i))
    → lines_of interval (records (λ i. record_of (a i) (p i)) k) ≡ records (λ i. shown_of interval (suc i) (a i) (p i)) k
unfolding lines_of
lines-shown interval k a p held =
    let f : ℕ → List ℕ = λ i. record_of (a i) (p i) in
    let sized : (i : ℕ) → length (f i) ≡ 16 = λ i. length-record (a i) (p i) in
    let count : length (records f k) / 16 ≡ k = omega (arith, length-records f 16 sized k) in
    rw count
    (records-same (line_at interval (records f k)) (λ i. shown_of interval (suc i) (a i) (p i)) k λ i l.
    rw (record-at f 16 sized k i l) (line-shown interval (suc i) (a i) (p i) (held i l)))

-- the run goes on only where the interval is accepted
goes-on : (m n : Monitor) (text : List ℕ) (v : Verdict) → (taken_by m text (result_and v (Ok n))).more ≡ true → v ≡ Ok tt
goes-on m n text (Ok x) e = refl
goes-on m n text (Err k) e = absurd (cc)

-- A step of the program, where the run goes on: its text is a line for each point, which shows the point's values after the interval.
-- A stored level is an i32.
pub step-shown : (m : Monitor) (buffer : List ℕ) → ((i : ℕ) → i < total (plant_in m) → SFits w32 (point_at m i).level)
    → (step_of m buffer).more ≡ true
    → (step_of m buffer).text
    ≡ records (λ i. shown_of (interval_number (header_of buffer)) (suc i) (assessment_in m buffer i) (point_after m buffer i)) (total (plant_in m))
unfolding step_of taken_from interval_of report_of record_after
step-shown m [] stored e = absurd (cc)
step-shown m (byte ∷ bytes) stored e =
    let buffer = byte ∷ bytes in
    let size = length (blank m) in
    let accepted : interval_verdict m buffer size ≡ Ok tt = goes-on m _ _ (interval_verdict m buffer size) e in
    rw accepted
    (lines-shown (interval_number (header_of buffer)) (total (plant_in m)) (assessment_in m buffer) (point_after m buffer)
    λ i l. held_in m (ready m buffer size accepted).sound buffer i l (stored i l))
