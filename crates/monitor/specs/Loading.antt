-- What load does, "A load returns the state and the visits"; "Every refusal, a load's among them, returns the old state", and what it promises.
use Rattle.std.specs.Prelude.{◌≡◌, List, ℕ, Result, Ok, Err}
use Rattle.trace.specs.Lists.{fold}
use Rattle.plants.specs.Plants.{Plant}
use Rattle.chains.specs.Chains.{plant_of}
use Rattle.chains.specs.Layouts.{SideBySide}
use Rattle.register.specs.Fields.{fields_of}
use Rattle.register.specs.Registers.{answer_number, visits_of, registered_of, register_refusal}
use Rattle.register.specs.declared.Registered.{Registered}
use Rattle.register.specs.declared.RegisterRefusal.{RegisterRefusal}
use Rattle.intervals.specs.Monitors.{roster_in, freshly}
use Rattle.intervals.specs.declared.Monitor.{Monitor}
use Rattle.monitor.specs.Calls.{Call, next, after}
use Rattle.monitor.specs.Demands.{Demand3, Dispatchable}
use Rattle.monitor.specs.Reasons.{Tellings}
use Rattle.monitor.specs.Restated.{Restated}
use Rattle.monitor.specs.Targets.{OwnTargets}
use Rattle.monitor.specs.declared.Loaded.{Loaded}

-- what an accepted register loads
abbrev pub load_by : Registered → Loaded
load_by r = record { visits = r.visits; monitor = freshly r.roster }

abbrev pub loaded_by : Result Registered RegisterRefusal → Result Loaded RegisterRefusal
loaded_by (Ok r) = Ok (load_by r)
loaded_by (Err k) = Err k

unfoldable pub load_of : List ℕ → Result Loaded RegisterRefusal
load_of bytes = loaded_by (registered_of bytes)

-- the visits that a load tells, 0 where it is refused
unfoldable pub load_visits : Result Loaded RegisterRefusal → ℕ
load_visits (Ok l) = l.visits
load_visits (Err k) = 0

-- the plant of a register's chains: what is promised of the calls after a load is said of this one, and not of what the state holds
abbrev pub plant_from : List ℕ → Plant
plant_from bytes = plant_of (fields_of bytes)

-- a call "of every kind": a load, or a call of demand 3's lists
pub data AnyCall : Type 0 where
  load : (bytes : List ℕ) → AnyCall
  call : Call → AnyCall

-- the state after a load: the old one where it is refused
abbrev pub state_loaded : Monitor → Result Loaded RegisterRefusal → Monitor
state_loaded old (Ok l) = l.monitor
state_loaded old (Err k) = old

abbrev pub next_of : Monitor → AnyCall → Monitor
next_of m (load bytes) = state_loaded m (load_of bytes)
next_of m (call c) = next m c

-- the bytes of the register in force: those of the last load that was accepted
abbrev pub in_force_by : List ℕ → List ℕ → Result Registered RegisterRefusal → List ℕ
in_force_by before bytes (Ok r) = bytes
in_force_by before bytes (Err k) = before

abbrev pub in_force : List ℕ → AnyCall → List ℕ
in_force before (load bytes) = in_force_by before bytes (registered_of bytes)
in_force before (call c) = before

-- What load promises: its result, its number and visits in 01, and of the state that an accepted one returns demand 3 over the register's
-- chains, that no list of calls leads to a level that cannot be dispatched, which reasons are told after each, and the rules of lists a second
-- time. After "every call of every kind, refused ones included", later loads among them, the members that the state holds side by side are
-- those of the chains of the register in force (02, 2026-08), and what is kept with each aggregate goes by those chains (02, 2026-07).
pub record Loads (bytes : List ℕ) (r : Result Loaded RegisterRefusal) : Type 0 where
  pub result : r ≡ load_of bytes
  pub number : answer_number r ≡ register_refusal bytes
  pub visits : load_visits r ≡ visits_of r (fields_of bytes)
  pub demand3 : (l : Loaded) → r ≡ Ok l → Demand3 (plant_from bytes) l.monitor
  pub levels : (l : Loaded) → r ≡ Ok l → (calls : List Call) → Dispatchable (plant_from bytes) (after l.monitor calls)
  pub reasons : (l : Loaded) → r ≡ Ok l → Tellings (plant_from bytes) l.monitor
  pub restated : (l : Loaded) → r ≡ Ok l → Restated bytes (plant_from bytes) l.monitor
  pub members : (l : Loaded) → r ≡ Ok l → (calls : List AnyCall)
      → SideBySide (fields_of (fold in_force bytes calls)) (roster_in (fold next_of l.monitor calls))
  pub targets : (l : Loaded) → r ≡ Ok l → (calls : List AnyCall)
      → OwnTargets (plant_from (fold in_force bytes calls)) (fold next_of l.monitor calls)
