-- What the code keeps on its way. `proofs/Walks.antt` shows that the walk ends in what Chains, Rules and Layouts say.
use Rattle.std.specs.Prelude.{true, false, ◌||◌, List, [], ◌∷◌, ℕ, zero, suc, ◌+◌, ◌%◌, get_or, set, replicate}
use Rattle.trace.specs.Sweeps.{sweep}
use Rattle.plants.specs.declared.Roster.{Roster}
use Rattle.plants.specs.declared.Stretch.{Stretch}
use Rattle.plants.specs.Rosters.{no_stretch}
use Rattle.chains.specs.Layouts.{start_at, count_at, roster_with}
use Rattle.chains.specs.declared.Chains.{Chains}
use Rattle.chains.specs.declared.visits.Walk.{Walk}
use Rattle.chains.specs.declared.visits.Walked.{Walked}

abbrev pub unwalked : Walk
unwalked = record { met = replicate 64 false; members = replicate 64 0; steps = 0; twice = false }

-- a step to unit i + 1; past the list's end nothing is stored
unfoldable pub step_to : Walk → ℕ → Walk
step_to w i =
    record {
      met = set w.met i true;
      members = set w.members w.steps i;
      steps = w.steps + 1;
      twice = w.twice || get_or w.met i false;
    }

unfoldable pub walked : Walk → List ℕ → Walk
walked w [] = w
walked w (zero ∷ units) = walked w units
walked w (suc i ∷ units) = walked (step_to w i) units

-- starts and counts as bytes: a walk that meets units twice may be longer than one can hold
abbrev pub stretch_walked : Chains → ℕ → Stretch
stretch_walked c j = record { start = start_at c j % 256; count = count_at c j % 256 }

unfoldable pub stretches_walked : Chains → List Stretch
stretches_walked c = sweep (stretch_walked c) c.aggregates (replicate 16 no_stretch)

unfoldable pub roster_from : Chains → Walked → Roster
roster_from c w = roster_with c w.walk.met w.walk.members w.stretches
