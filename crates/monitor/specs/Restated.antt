-- What `load` promises of lists of calls, said a second time: over the bytes of the register, of the buffers and of the reports, over numbers
-- and the list of calls. It uses none of the definitions that say what is accepted, how a run grows, which status shows and what is seen of a
-- report, so that a slip in one of those, made alike in the code, does not meet both statements.
use Rattle.std.specs.Prelude.{◌≡◌, ◌↔◌, true, false, List, ◌∷◌, ◌++◌, ℕ, suc, ◌+◌, ◌-◌, ◌*◌, ◌≤◌, ◌<◌, min, pos, length, get_or, set, take, drop}
use Rattle.trace.specs.Lists.{Alike}
use Rattle.trace.specs.Counts.{CountedSince}
use Rattle.plants.specs.Plants.{Plant, place, elem, region_of}
use Rattle.marks.specs.Numbers.{Numbered}
use Rattle.points.specs.Statuses.{Status}
use Rattle.points.specs.declared.Point.{Point}
use Rattle.intervals.specs.Plants.{Group, unit, aggregate, group_region}
use Rattle.intervals.specs.Headers.{interval_number, BitSet, Flipped, WellFormed}
use Rattle.intervals.specs.declared.Monitor.{Monitor}
use Rattle.operators.specs.Operators.{Operator, ask, look}
use Rattle.monitor.specs.Calls.{Call, interval, operate, Outcome, refusal, reported, looked, answer, after}
use Rattle.monitor.specs.History.{begin, assessment_then, extend, history}
use Rattle.monitor.specs.Demands.{names, Matched, Outside, IsPoint, Declared}
use Rattle.monitor.specs.Reasons.{counts_small, clears_small, counts_large, clears_large, Marks, Clears}

-- ==== "a group's fate is its own"

-- "Set beside it, from the same register, any list made from it in this way"
abbrev pub AlikeFor : Plant → Group → List Call → List Call → Type 0
AlikeFor plant g = Alike (Matched plant g) (Outside plant g)

-- a point's record in two reports: bytes 16(p − 1) to 16p − 1
abbrev pub SameRecord : ℕ → List ℕ → List ℕ → Type 0
SameRecord p x y = (i : ℕ) → 16 * (p - 1) ≤ i → i < 16 * p → get_or x i 0 ≡ get_or y i 0

-- "each interval is accepted in both or refused in both with the same number", and "Every .. report record of that group is the same"
pub data SameReport (plant : Plant) (g : Group) : Outcome → Outcome → Type 0 where
  both_refused : (k : ℕ) → SameReport plant g (refusal k) (refusal k)
  both_reported : {x y : List ℕ} → ((p : ℕ) → names plant g p ≡ true → SameRecord p x y) → SameReport plant g (reported x) (reported y)

-- after two lists that are alike for a group, each call answers it the same: an operator call that names one of its points, and an interval
pub record Fates (plant : Plant) (m : Monitor) : Type 0 where
  pub answers : (g : Group) (xs ys : List Call) → AlikeFor plant g xs ys
      → (op : Operator) (p : ℕ) → names plant g p ≡ true → answer (after m xs) (operate op p) ≡ answer (after m ys) (operate op p)
  pub reports : (g : Group) (xs ys : List Call) → AlikeFor plant g xs ys
      → (b b' r r' : List ℕ) → Matched plant g (interval b r) (interval b' r')
      → SameReport plant g (answer (after m xs) (interval b r)) (answer (after m ys) (interval b' r'))

-- ---- the groups, and which lists are alike for one

-- a point is an aggregate's own, or that of one of its members. Units are numbered from 1, places and aggregates counted from 0
pub data PointOf (plant : Plant) (j : ℕ) : ℕ → Type 0 where
  own : j < plant.aggregates → PointOf plant j (suc (plant.units + j))
  member : {u : ℕ} → u < plant.units → elem u (plant.members j) ≡ true → PointOf plant j (suc u)

-- "A group is an aggregate with its members, or a unit in no chain"
pub record Grouped (plant : Plant) : Type 0 where
  pub units : (u p : ℕ) → (names plant (unit u) p ≡ true) ↔ ((u < plant.units) × (p ≡ suc u))
  pub aggregates : (j p : ℕ) → (names plant (aggregate j) p ≡ true) ↔ PointOf plant j p
  -- "All members of a chain share a region" (02, 2026-09): each point of a group has the group's
  pub region : (g : Group) (p : ℕ) → names plant g p ≡ true → region_of plant (place p) ≡ group_region plant g

-- an interval buffer with other 40 bytes in the place of the line of unit u
abbrev pub rewritten : List ℕ → ℕ → List ℕ → List ℕ
rewritten buffer u line = take (8 + 40 * (u - 1)) buffer ++ (line ++ drop (8 + 40 * (u - 1) + 40) buffer)

pub record Covered (plant : Plant) (g : Group) : Type 0 where
  pub itself : (xs : List Call) → AlikeFor plant g xs xs
  -- "operator calls that name only points outside it, before the change and after, may be added, dropped or altered"
  pub added : (xs ys : List Call) (op : Operator) (p : ℕ) → names plant g p ≡ false → AlikeFor plant g (xs ++ ys) (xs ++ (operate op p ∷ ys))
  pub dropped : (xs ys : List Call) (op : Operator) (p : ℕ) → names plant g p ≡ false → AlikeFor plant g (xs ++ (operate op p ∷ ys)) (xs ++ ys)
  -- a call may stand in the place of one that it matches
  pub exchanged : (xs ys : List Call) (c d : Call) → Matched plant g c d → AlikeFor plant g (xs ++ (c ∷ ys)) (xs ++ (d ∷ ys))
  -- "What a report buffer held before its call may differ"
  pub report : (buffer report report' : List ℕ) → length report ≡ length report' → Matched plant g (interval buffer report) (interval buffer report')
  -- "lines of units outside the group may be rewritten"
  pub line : (buffer report line : List ℕ) (u : ℕ) → 1 ≤ u → u ≤ plant.units → names plant g u ≡ false
      → 8 + 40 * u ≤ length buffer → length line ≡ 40
      → Matched plant g (interval buffer report) (interval (rewritten buffer u line) report)
  -- "flipping another region's bit": one of bits 0 to 4 of the mask at byte 4, and not the group's own
  pub bit : (buffer report : List ℕ) (r mask : ℕ) → r ≤ 4 → ¬ (r ≡ group_region plant g) → 8 ≤ length buffer → Flipped r (get_or buffer 4 0) mask
      → Matched plant g (interval buffer report) (interval (set buffer 4 mask) report)

-- ==== The register's numbers

-- "unit count n ..; aggregate count m ..; six run lengths Ns, Ps, Ds, Nl, Pl, Dl, a byte each": the first eight bytes of the header
pub record RegisterNumbers (register : List ℕ) (plant : Plant) : Type 0 where
  pub units : plant.units ≡ get_or register 0 0
  pub aggregates : plant.aggregates ≡ get_or register 1 0
  pub ns : plant.small.not_responding ≡ get_or register 2 0
  pub ps : plant.small.pending ≡ get_or register 3 0
  pub ds : plant.small.declaration ≡ get_or register 4 0
  pub nl : plant.large.not_responding ≡ get_or register 5 0
  pub pl : plant.large.pending ≡ get_or register 6 0
  pub dl : plant.large.declaration ≡ get_or register 7 0
  -- "Byte 2 of a unit record becomes its region" (02, 2026-09), in the 4 bytes from 16 + 4(u - 1) on, and "All members of a chain share a region"
  pub unit_region : (u : ℕ) → 1 ≤ u → u ≤ plant.units → region_of plant (place u) ≡ get_or register (16 + 4 * (u - 1) + 2) 0
  pub member_region : (j i : ℕ) → elem i (plant.members j) ≡ true → region_of plant i ≡ region_of plant (plant.units + j)
  pub regions : (p : ℕ) → region_of plant (place p) ≤ 4

-- ==== Acceptance of intervals

abbrev pub Accepted : Monitor → List ℕ → List ℕ → Type 0
Accepted m buffer report = (x : List ℕ) × (answer m (interval buffer report) ≡ reported x)

-- an interval of the list is accepted where it stands, after the calls before it, and its buffer is such a one
pub record Among (m : Monitor) (Such : List ℕ → Type 0) (calls : List Call) : Type 0 where
  pub before : List Call
  pub buffer : List ℕ
  pub report : List ℕ
  pub later : List Call
  pub splits : calls ≡ before ++ (interval buffer report ∷ later)
  pub accepted : Accepted (after m before) buffer report
  pub such : Such buffer

-- "An interval is accepted unless 8, 9 or 21 applies, 21 looking at the intervals accepted earlier in the list"
pub record AcceptableAfter (plant : Plant) (m : Monitor) (calls : List Call) (buffer report : List ℕ) : Type 0 where
  -- neither 8 nor 9
  pub formed : WellFormed plant buffer (length report)
  -- nor 21, "interval number not above the last accepted since the load (the first may be any number)": it is above each of them
  pub above : ¬ Among m (λ earlier. interval_number buffer ≤ interval_number earlier) calls

-- ==== Runs and statuses

-- "Small run: SMALL and LARGE marks since the latest OFF, CLEAR or accepted reinstatement"
abbrev pub SmallRun : Plant → List Call → ℕ → ℕ → Type 0
SmallRun plant calls p = CountedSince (extend plant) (Marks plant p counts_small) (Clears plant p clears_small) begin calls

-- "Large run: LARGE marks since the latest OFF, CLEAR, SMALL or accepted reinstatement"
abbrev pub LargeRun : Plant → List Call → ℕ → ℕ → Type 0
LargeRun plant calls p = CountedSince (extend plant) (Marks plant p counts_large) (Clears plant p clears_large) begin calls

-- the last interval that was accepted has a region in automatic mode: "bit r set means region r is automatic", of the mask at byte 4
pub record AutomaticLast (m : Monitor) (region : ℕ) (calls : List Call) : Type 0 where
  pub found : Among m (λ buffer. BitSet region (get_or buffer 4 0)) calls
  pub last : (mid rest : List Call) (buffer report : List ℕ) → found.later ≡ mid ++ (interval buffer report ∷ rest)
      → ¬ Accepted (after m (found.before ++ (interval found.buffer found.report ∷ mid))) buffer report

-- what a look shows of a point that is not declared, by its runs: "Stored runs stop at 255", "level is 0 unless declared"
pub record Undeclared (plant : Plant) (Automatic : Type 0) (q : Point) (small large : ℕ) : Type 0 where
  pub status : Status Automatic plant.small.not_responding plant.small.pending plant.large.not_responding plant.large.pending small large q.status
  pub small_run : q.small.count ≡ min 255 small
  pub large_run : q.large.count ≡ min 255 large
  pub level : q.level ≡ pos 0

-- "4 Non-Conforming while declared", and stored runs "are 0 while declared"
pub record ShownDeclared (q : Point) : Type 0 where
  pub status : q.status ≡ 4
  pub small_run : q.small.count ≡ 0
  pub large_run : q.large.count ≡ 0

-- ==== What holds of the state that an accepted load of these bytes returns; the plant is that of their chains

pub record Restated (register : List ℕ) (plant : Plant) (m : Monitor) : Type 0 where
  pub numbers : RegisterNumbers register plant
  pub groups : Grouped plant
  pub covers : (g : Group) → Covered plant g
  pub fates : Fates plant m
  -- a look is accepted exactly at a point: 10 is "point 0 or above n+m"
  pub points : (calls : List Call) (p : ℕ) → ((q : Point) × (answer (after m calls) (operate (ask look) p) ≡ looked q)) ↔ IsPoint plant p
  pub accepts : (calls : List Call) (buffer report : List ℕ) → Accepted (after m calls) buffer report ↔ AcceptableAfter plant m calls buffer report
  -- a point's mark in the history is the one that the report tells, by its number: its record's second byte
  pub marks : (calls : List Call) (buffer report x : List ℕ) → answer (after m calls) (interval buffer report) ≡ reported x
      → (p : ℕ) → IsPoint plant p → Numbered (assessment_then plant (history plant calls) buffer (place p)).mark (get_or x (16 * (p - 1) + 1) 0)
  -- "A jump in interval number makes all kept lines stale": where no interval of the number before was accepted, each mark of the report, its
  -- record's second byte, is 0 OFF or 1 BLANK
  pub jumps : (calls : List Call) (buffer report x : List ℕ) → answer (after m calls) (interval buffer report) ≡ reported x
      → ¬ Among m (λ earlier. interval_number earlier + 1 ≡ interval_number buffer) calls
      → (p : ℕ) → IsPoint plant p → get_or x (16 * (p - 1) + 1) 0 ≤ 1
  -- a run's length in the history is the count over the list
  pub small_runs : (calls : List Call) (p n : ℕ) → IsPoint plant p
      → SmallRun plant calls p n ↔ (n ≡ ((history plant calls).points (place p)).small.count)
  pub large_runs : (calls : List Call) (p n : ℕ) → IsPoint plant p
      → LargeRun plant calls p n ↔ (n ≡ ((history plant calls).points (place p)).large.count)
  -- what a look answers
  pub declared : (calls : List Call) (p : ℕ) (q : Point) → answer (after m calls) (operate (ask look) p) ≡ looked q
      → Declared plant calls p → ShownDeclared q
  pub undeclared : (calls : List Call) (p small large : ℕ) (q : Point) → answer (after m calls) (operate (ask look) p) ≡ looked q
      → ¬ Declared plant calls p → SmallRun plant calls p small → LargeRun plant calls p large
      → Undeclared plant (AutomaticLast m (region_of plant (place p)) calls) q small large
