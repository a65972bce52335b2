-- Demand 3, over every list of interval, declare, reinstate, look, reason and target calls, refused ones included, from a freshly accepted
-- register on.
use Rattle.std.specs.Prelude.{◌≡◌, ◌↔◌, ◌⊎◌, Bool, true, false, cond, ◌&&◌, List, [], ◌∷◌, ◌++◌, length, get_or, take, drop, Ok}
use Rattle.std.specs.Prelude.{ℕ, zero, suc, ◌+◌, ◌*◌, ◌/◌, ◌%◌, ◌^◌, ◌≤◌, ℤ}
use Rattle.trace.specs.Lists.{outcomes, Alike, sights, Since}
use Rattle.plants.specs.Plants.{Plant, place, region_of}
use Rattle.marks.specs.Levels.{is_dispatchable}
use Rattle.marks.specs.declared.Mark.TheVariants.{Small, Large}
use Rattle.points.specs.declared.Point.{Point}
use Rattle.intervals.specs.Plants.{total, named, is_unidirectional_at, Group, unit_in, point_in, group_region}
use Rattle.intervals.specs.Assessments.{header_of, number_of, mask_of, bytes_at}
use Rattle.intervals.specs.Monitors.{point_at}
use Rattle.intervals.specs.declared.Monitor.{Monitor}
use Rattle.operators.specs.Operators.{Operator, declare, reinstate, ask, look}
use Rattle.monitor.specs.Calls.{Call, interval, operate, Outcome, refusal, reported, done, looked, reasoned, targeted, answer, after, run}
use Rattle.monitor.specs.History.{History, begin, is_declared, assessment_then, verdict, extend, history, foretold}

-- ==== The first half: "a group's fate is its own"

-- a call names a point of the group. "Point 0 and points above n+m are outside every group"
abbrev pub names : Plant → Group → ℕ → Bool
names plant g p = named plant p && point_in plant g (place p)

-- "A group's history now includes its own region's bit and no other: flipping another region's bit joins the things an outsider may alter without
-- effect" (02, 2026-09). Both masks are up to 31 or neither is, so that 9 refuses both headers or neither
pub record SameHeader (region : ℕ) (header header' : List ℕ) : Type 0 where
  pub number : number_of header ≡ number_of header'
  pub bit : mask_of header / 2 ^ region % 2 ≡ mask_of header' / 2 ^ region % 2
  pub masks : (mask_of header ≤ 31) ↔ (mask_of header' ≤ 31)
  pub spare_5 : get_or header 5 0 ≡ get_or header' 5 0
  pub spare_6 : get_or header 6 0 ≡ get_or header' 6 0
  pub spare_7 : get_or header 7 0 ≡ get_or header' 7 0

-- Two calls at the same place of the two lists: "lines of units outside the group may be rewritten, .. and all else stays, interval
-- headers and buffer lengths too", but for other regions' bits. "What a report buffer held before its call may differ"
pub data Matched (plant : Plant) (g : Group) : Call → Call → Type 0 where
  same_interval : {buffer buffer' report report' : List ℕ}
      → SameHeader (group_region plant g) (header_of buffer) (header_of buffer')
      → length buffer ≡ length buffer'
      → length report ≡ length report'
      → ((i : ℕ) → unit_in plant g i ≡ true → bytes_at buffer i ≡ bytes_at buffer' i)
      → Matched plant g (interval buffer report) (interval buffer' report')
  same_call : (op : Operator) (p : ℕ) → names plant g p ≡ true → Matched plant g (operate op p) (operate op p)

-- "operator calls that name only points outside it .. may be added, dropped or altered"
abbrev pub Outside : Plant → Group → Call → Type 0
Outside plant g (interval buffer report) = ⊥
Outside plant g (operate op p) = names plant g p ≡ false

-- "Its report records are those of its points after each accepted interval"
abbrev pub records_in : Plant → Group → List ℕ → ℕ → List ℕ
records_in plant g report zero = []
records_in plant g report (suc i) =
    records_in plant g report i ++ cond (point_in plant g i) (take 16 (drop (16 * i) report)) []

abbrev pub of_group : Plant → Group → Outcome → Outcome
of_group plant g (refusal k) = refusal k
of_group plant g (reported report) = reported (records_in plant g report (total plant))
of_group plant g done = done
of_group plant g (looked q) = looked q
of_group plant g (reasoned why) = reasoned why
of_group plant g (targeted t) = targeted t

-- "A group's answers are those to operator calls that name one of its points, in list order"; and of each interval its refusal's
-- number or the group's records
abbrev pub view : Plant → Group → Call → Outcome → List Outcome
view plant g (interval buffer report) o = of_group plant g o ∷ []
view plant g (operate op p) o = cond (names plant g p) (o ∷ []) []

abbrev pub seen : Plant → Group → List Call → List Outcome → List Outcome
seen plant g = sights (view plant g)

-- ==== The second half: "a point is declared exactly when .."

-- "Points are 1 to n for the units, n+1 to n+m for the aggregates" (01, "The register")
abbrev pub IsPoint : Plant → ℕ → Type 0
IsPoint plant p = (1 ≤ p) × (p ≤ plant.units + plant.aggregates)

-- "an operator's declaration of it was accepted or, in automatic mode, a SMALL or LARGE mark of its own brought its small or large
-- run to that run's length for declaration or beyond"
pub data Declares (plant : Plant) (p : ℕ) (h : History) : Call → Type 0 where
  by_operator : (level : ℤ) → verdict plant h (operate (declare level) p) ≡ Ok tt → Declares plant p h (operate (declare level) p)
  by_mark : (buffer report : List ℕ)
      → verdict plant h (interval buffer report) ≡ Ok tt
      → IsPoint plant p
      → mask_of (header_of buffer) / 2 ^ region_of plant (place p) % 2 ≡ 1
      → ((assessment_then plant h buffer (place p)).mark ≡ Small) ⊎ ((assessment_then plant h buffer (place p)).mark ≡ Large)
      → (plant.small.declaration ≤ ((extend plant h (interval buffer report)).points (place p)).small.count)
      ⊎ (plant.large.declaration ≤ ((extend plant h (interval buffer report)).points (place p)).large.count)
      → Declares plant p h (interval buffer report)

abbrev pub Reinstates : Plant → ℕ → History → Call → Type 0
Reinstates plant p h c = (c ≡ operate reinstate p) × (verdict plant h c ≡ Ok tt)

-- "since its last accepted reinstatement (or since the register, if there was none)": the list splits into calls before, an event,
-- and later calls, none of which is an accepted reinstatement of the point
abbrev pub Declared : Plant → List Call → ℕ → Type 0
Declared plant calls p = Since (extend plant) (Declares plant p) (Reinstates plant p) begin calls

-- the same by the history's own recursion, which acceptance uses
abbrev pub declared_then : Plant → List Call → ℕ → Bool
declared_then plant calls p = named plant p && is_declared ((history plant calls).points (place p)).standing

-- "A point is declared after a list when a look at it there would answer status 4"
abbrev pub LooksDeclared : Monitor → ℕ → Type 0
LooksDeclared m p = (q : Point) × (answer m (operate (ask look) p) ≡ looked q) × (q.status ≡ 4)

-- ==== The promise

pub record Demand3 (plant : Plant) (m : Monitor) : Type 0 where
  -- 1. independence: every answer and record of the group is the same in both lists, and so is each interval's acceptance
  pub apart : (g : Group) (xs ys : List Call) → Alike (Matched plant g) (Outside plant g) xs ys
      → seen plant g xs (run m xs) ≡ seen plant g ys (run m ys)
  -- 2. declared exactly when the rule holds of the list, and the rule's recursive form is equivalent
  pub exactly : (calls : List Call) (p : ℕ) → LooksDeclared (after m calls) p ↔ Declared plant calls p
  pub recursive : (calls : List Call) (p : ℕ) → (declared_then plant calls p ≡ true) ↔ Declared plant calls p
  -- 3. bridge: every acceptance, refusal number, report, look, reason and target is the one that the history gives
  pub bridge : (calls : List Call) → run m calls ≡ outcomes (extend plant) (foretold plant) begin calls

-- "Never a level that cannot be dispatched" (02, 2026-02), whoever declared the point: looks and reports show the level of its record
pub record Dispatchable (plant : Plant) (m : Monitor) : Type 0 where
  pub level : (i : ℕ) → is_dispatchable (is_unidirectional_at plant i) (point_at m i).level ≡ true
