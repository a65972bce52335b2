-- The numbers of an interval's report fit the report's fields: a sound state's errors, triggers and levels are numbers of 32 bits.
-- Assumes nothing.
use mathlib.Core.Path.{◌≡◌, refl}
use mathlib.Core.Bool.{Bool, true, false, cond, not, ◌&&◌, or-true}
use mathlib.Core.List.{List, [], ◌∷◌, map}
use Prim.Native.Nat.{ℕ, ◌+◌, ◌-◌, ◌*◌, ◌^◌, ◌≤◌, ◌<◌}
use native.Mathlib.Nat.{le_trans}
use native.Mathlib.Omega.{arith}
use borrow.Author.Tests.{ltb-true, ltb-false, eq-eqb}
use lib.Dec.{eqb, ltb, lit≤, lit<}
use lib.IntN.{pos, nat_abs}
use lib.ListN.{length, get_or}
use mir.Syntax.{w32}
use mir.Val.{SFits}
use Rattle.trace.proofs.Tests.{chosen}
use Rattle.signed.proofs.Sizes.{size_fits}
use Rattle.signed.proofs.Floors.{floored-size}
use Rattle.std.specs.Prelude.{Option, Some, None}
use Rattle.kinds.specs.declared.Kind.{Kind}
use Rattle.telemetry.specs.Lines.{power_of}
use Rattle.telemetry.specs.declared.Fields.{Fields}
use Rattle.plants.specs.Plants.{elem}
use Rattle.plants.specs.Rosters.{stretch_of}
use Rattle.plants.proofs.Stretches.{stretch-few, member-inside}
use Rattle.marks.specs.Assessments.{is_missing, is_uncapped, judged, without, unit_basis}
use Rattle.marks.specs.Assessments.{known_assessment, kept_assessment, readable_assessment, line_assessment, unit_assessment}
use Rattle.aggregates.specs.Aggregates.{no_sums, add_member, add_members, aggregate_basis, sums_assessment, aggregate_assessment}
use Rattle.marks.specs.Bounds.{SmallFields, SmallLine, SmallKept, SmallSight, SmallBasis}
use Rattle.aggregates.specs.Sizes.{SmallSums}
use Rattle.aggregates.specs.Views.{view_of}
use Rattle.marks.specs.declared.Assessment.{Assessment}
use Rattle.marks.specs.declared.Basis.{Basis}
use Rattle.marks.specs.declared.Kept.{Kept}
use Rattle.marks.specs.declared.Mark.{Mark}
use Rattle.marks.specs.declared.Mark.TheVariants.{Off, Blank}
use Rattle.marks.specs.declared.Sight.{Sight}
use Rattle.aggregates.specs.declared.Sums.{Sums}
use Rattle.marks.proofs.Small.{unit-small, error-size}
use Rattle.aggregates.proofs.Small.{wider, view-small, view-more, no-sums-small, aggregate-small}
use Rattle.aggregates.proofs.Views.{add-view}
use Rattle.triggers.proofs.Thresholds.{small-bounded}
use Rattle.points.specs.declared.Point.{Point}
use Rattle.points.proofs.Levels.{level-after}
use Rattle.intervals.specs.Plants.{total}
use Rattle.intervals.specs.Assessments.{header_of, number_of, mask_of, rule_at, sight_at, assessment_at}
use Rattle.intervals.specs.Monitors.{roster_in, plant_in, kept_at, point_at, sound_of}
use Rattle.intervals.specs.Intervals.{fresh_in, assessment_in, point_after}
use Rattle.intervals.specs.declared.Monitor.{Monitor}
use Rattle.intervals.proofs.States.{roster-sound, sight-small}

-- the four bytes that the report has for each of these are enough
pub record Held (a : Assessment) (p : Point) : Type 0 where
  pub error : SFits w32 a.error
  pub trigger : a.trigger < 2 ^ 32
  pub level : SFits w32 p.level

-- ---- how large an assessment's numbers are

-- an aggregate has at most 64 members, and the bounds have room for 65: an error is at most three sums, a trigger 3 per cent of one in
-- hundredths, a level one
record SmallAssessment (a : Assessment) : Type 0 where
  error : nat_abs a.error ≤ 390000000
  trigger : a.trigger ≤ 390000000
  level : nat_abs a.level ≤ 130000000

-- OFF and BLANK, and the others
without-small : (mark : Mark) → SmallAssessment (without mark)
without-small mark = record { error = lit≤ tt; trigger = lit≤ tt; level = lit≤ tt }

judged-small : (b : Basis) → SmallBasis b → SmallAssessment (judged b)
unfolding judged
judged-small b s =
    record {
      error = error-size b s;
      trigger = small-bounded b.availability b.rate s.availability;
      level = le_trans (floored-size b.unidirectional b.power) s.power;
    }

either : (b : Bool) {x y : Assessment} → SmallAssessment x → SmallAssessment y → SmallAssessment (cond b x y)
either b = chosen SmallAssessment b _ _

-- a unit's, and an aggregate's from its sums
kept-assessed : (kind : Option Kind) (f : Fields) (k : Option Kept) → SmallFields f → SmallKept k → SmallAssessment (kept_assessment kind f k)
unfolding known_assessment
kept-assessed kind f (Some k) s t =
    let known = either (is_uncapped kind k.capped) (without-small Off) (judged-small (unit_basis kind f k) (unit-small kind f k s t)) in
    either (is_missing (power_of f)) (without-small Blank) known
kept-assessed kind f None s t = without-small Blank

unit-assessed : (kind : Option Kind) (chained : Bool) (l : Option Fields) (k : Option Kept) → SmallLine l → SmallKept k
    → SmallAssessment (line_assessment kind chained l k)
unfolding readable_assessment
unit-assessed kind chained (Some f) k s t = either (chained && not (eqb f.mode 2)) (without-small Off) (kept-assessed kind f k s t)
unit-assessed kind chained None k s t = without-small Blank

sums-assessed : (s : Sums) → SmallSums 130000000 s → SmallAssessment (sums_assessment s)
unfolding sums_assessment
sums-assessed s b =
    let known = either s.flags.known (judged-small (aggregate_basis s) (aggregate-small s b)) (without-small Blank) in
    either s.flags.readable (either s.flags.monitored known (without-small Off)) (without-small Blank)

-- the sums over members: each adds at most 2,000,000
member-more : {n : ℕ} (s : Sums) (v : Sight) → SmallSums n s → SmallSight v → SmallSums (n + 2000000) (add_member s v)
member-more s v b h = rw (← add-view s v) (view-more s (view_of v) b (view-small v h))

members-small : (sight : ℕ → Sight) (us : List ℕ) (s : Sums) {n : ℕ} → ((u : ℕ) → elem u us ≡ true → SmallSight (sight u)) → SmallSums n s
    → SmallSums (n + 2000000 * length us) (add_members s (map sight us))
members-small sight [] s seen b = wider (omega arith) b
members-small sight (u ∷ us) s seen b =
    wider (omega arith)
    (members-small sight us (add_member s (sight u)) (λ v e. seen v (rw e (or-true (eqb v u)))) (member-more s (sight u) b (seen u (rw (eq-eqb u u refl)))))

-- ---- of a sound state

module _ (m : Monitor) (sound : sound_of m ≡ true) (buffer : List ℕ) where
  abbrev sight : ℕ → Sight
  sight = sight_at (plant_in m) buffer (fresh_in m buffer) (kept_at m)

  -- every point's assessment
  small-in : (i : ℕ) → i < total (plant_in m) → SmallAssessment (assessment_in m buffer i)
  unfolding assessment_in assessment_at unit_assessment plant_in
  small-in i l = go (ltb i (roster_in m).units) refl
    where
      seen : (j : ℕ) → j < (roster_in m).units → SmallSight (sight j)
      seen = sight-small m sound (fresh_in m buffer) buffer

      go : (b : Bool) → ltb i (roster_in m).units ≡ b
          → SmallAssessment
          (cond b
          (unit_assessment (get_or (roster_in m).chained i false) (sight i))
          (aggregate_assessment (map sight (stretch_of (roster_in m) (i - (roster_in m).units)))))
      go true e =
          let v = seen i (ltb-true i (roster_in m).units e) in
          unit-assessed (sight i).kind (get_or (roster_in m).chained i false) (sight i).line (sight i).kept v.line v.kept
      go false e =
          let j = i - (roster_in m).units in
          let inside : j < (roster_in m).aggregates = omega (arith, ltb-false) in
          let few = stretch-few (roster_in m) (roster-sound m sound) j inside in
          let member = member-inside (roster_in m) (roster-sound m sound) j inside in
          sums-assessed (add_members no_sums (map sight (stretch_of (roster_in m) j)))
          (wider (omega arith) (members-small sight (stretch_of (roster_in m) j) no_sums (λ u e. seen u (member u e)) no-sums-small))

  level_in : (i : ℕ) → i < total (plant_in m) → SFits w32 (point_at m i).level → SFits w32 (point_after m buffer i).level
  unfolding point_after
  level_in i l stored =
      let rule = rule_at (plant_in m) (mask_of (header_of buffer)) i in
      level-after (SFits w32) rule (number_of (header_of buffer)) (assessment_in m buffer i) (point_at m i) stored
      (size_fits w32 (assessment_in m buffer i).level (small-in i l).level (lit< tt))
      (size_fits w32 (pos 0) {k = 0} (lit≤ tt) (lit< tt))

  -- so an interval's report holds every number of a point whose stored level is an i32, as the code's levels all are
  pub held_in : (i : ℕ) → i < total (plant_in m) → SFits w32 (point_at m i).level → Held (assessment_in m buffer i) (point_after m buffer i)
  held_in i l stored =
      let a = small-in i l in
      record {
        error = size_fits w32 (assessment_in m buffer i).error a.error (lit< tt);
        trigger = omega (arith, a.trigger);
        level = level_in i l stored;
      }
