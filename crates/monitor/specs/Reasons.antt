-- Which run it was (02, 2026-06): what is told of a declared point "must be the very event that the declaration rule finds in the point's
-- history, the earliest since reinstatement". Said over the list of calls; of the history it takes acceptance, marks and the lengths of runs.
use Rattle.std.specs.Prelude.{◌≡◌, ◌↔◌, ◌⊎◌, List, [], ◌∷◌, ◌++◌, ℕ, ◌≤◌, ◌<◌, ℤ, Ok}
use Rattle.trace.specs.Lists.{Earliest}
use Rattle.plants.specs.Plants.{Plant, place}
use Rattle.marks.specs.declared.Mark.{Mark}
use Rattle.marks.specs.declared.Mark.TheVariants.{Off, Clear, Small, Large}
use Rattle.points.specs.declared.Reason.{Reason}
use Rattle.points.specs.declared.Reason.TheVariants.{ByOperator, BySmallRun, ByLargeRun}
use Rattle.intervals.specs.Assessments.{header_of, number_of}
use Rattle.intervals.specs.declared.Monitor.{Monitor}
use Rattle.operators.specs.Operators.{declare, ask, reason}
use Rattle.monitor.specs.Calls.{Call, interval, operate, reasoned, answer, after}
use Rattle.monitor.specs.History.{History, begin, assessment_then, verdict, extend, history}
use Rattle.monitor.specs.Demands.{Declares, Reinstates, Declared}

-- the marks that a run counts, and the marks that clear it
abbrev pub counts_small : Mark → Type 0
counts_small mark = (mark ≡ Small) ⊎ (mark ≡ Large)

abbrev pub clears_small : Mark → Type 0
clears_small mark = (mark ≡ Off) ⊎ (mark ≡ Clear)

abbrev pub counts_large : Mark → Type 0
counts_large mark = mark ≡ Large

abbrev pub clears_large : Mark → Type 0
clears_large mark = (mark ≡ Off) ⊎ ((mark ≡ Clear) ⊎ (mark ≡ Small))

-- an accepted interval gives the point such a mark
pub data Marks (plant : Plant) (p : ℕ) (Such : Mark → Type 0) (h : History) : Call → Type 0 where
  marks : (buffer report : List ℕ)
      → verdict plant h (interval buffer report) ≡ Ok tt
      → Such (assessment_then plant h buffer (place p)).mark
      → Marks plant p Such h (interval buffer report)

-- what clears a run: such a mark, or an accepted reinstatement. A list begins at a load
abbrev pub Clears : Plant → ℕ → (Mark → Type 0) → History → Call → Type 0
Clears plant p Such h c = Marks plant p Such h c ⊎ Reinstates plant p h c

abbrev pub number_in : Call → ℕ
number_in (interval buffer report) = number_of (header_of buffer)
number_in (operate op p) = 0

-- "the first mark counted in that run": the earliest that it counts after which nothing has cleared it, in the interval of this number
pub record Begins (plant : Plant) (calls : List Call) (p : ℕ) (counts clears : Mark → Type 0) (number : ℕ) : Type 0 where
  pub mark : Earliest (extend plant) (Marks plant p counts) (Clears plant p clears) begin calls
  pub numbered : number_in mark.since.event ≡ number

-- a list up to this call
abbrev pub up_to : List Call → Call → List Call
up_to before c = before ++ (c ∷ [])

-- what is told of the event that declared a point, by the calls before it: "small run, large run or operator, with the interval numbers
-- of the first mark counted in that run and of the declaring mark, both 0 for the operator. If after the declaring mark both runs are at
-- their lengths or beyond, it says large"
pub data Tells (plant : Plant) (p : ℕ) (before : List Call) : Call → Reason → Type 0 where
  tells_operator : (level : ℤ) → Tells plant p before (operate (declare level) p) ByOperator
  tells_large : (buffer report : List ℕ) (first : ℕ)
      → plant.large.declaration ≤ ((history plant (up_to before (interval buffer report))).points (place p)).large.count
      → Begins plant (up_to before (interval buffer report)) p counts_large clears_large first
      → Tells plant p before (interval buffer report) (ByLargeRun (record { first = first; last = number_of (header_of buffer) }))
  tells_small : (buffer report : List ℕ) (first : ℕ)
      → ((history plant (up_to before (interval buffer report))).points (place p)).large.count < plant.large.declaration
      → Begins plant (up_to before (interval buffer report)) p counts_small clears_small first
      → Tells plant p before (interval buffer report) (BySmallRun (record { first = first; last = number_of (header_of buffer) }))

-- "the very event that the declaration rule finds in the point's history, the earliest since reinstatement"
pub record Explains (plant : Plant) (calls : List Call) (p : ℕ) (why : Reason) : Type 0 where
  pub found : Earliest (extend plant) (Declares plant p) (Reinstates plant p) begin calls
  pub tells : Tells plant p found.since.before found.since.event why

-- the call for a point's reason is answered with this one
abbrev pub Answers : Monitor → ℕ → Reason → Type 0
Answers m p why = answer m (operate (ask reason) p) ≡ reasoned why

-- of the state that an accepted load returns: after every list a reason is told of the points that are declared, and it is the one that
-- the list explains
pub record Tellings (plant : Plant) (m : Monitor) : Type 0 where
  pub tells : (calls : List Call) (p : ℕ) → ((why : Reason) × Answers (after m calls) p why) ↔ Declared plant calls p
  pub explains : (calls : List Call) (p : ℕ) (why : Reason) → Answers (after m calls) p why ↔ Explains plant calls p why
