use Rattle.std.proofs.Common.{arith, rules, ◌-◌, ◌+◌, ◌≡◌, length}
use Rattle.plants.specs.Rosters.{stretch_of}
use Rattle.plants.proofs.Stretches.{slice-entries}
use Rattle.plants.proofs.Soundness.{stretch-inside}
use Rattle.plants.proofs.Roster.stretch.Goals as goal

pub returns : goal.returns
unfolding stretch_of
returns c =
    let inside = stretch-inside _ c.requires.sound _ c.requires.aggregate_in_bounds in
    let e : c.from-start.result + c.from.result - c.from-start.result ≡ c.from.result = omega arith in
    let long : length c.args.self.now.members ≡ 64 = search rules in
    rw (e, c.from.ensures, c.from-start.ensures) (slice-entries c.args.self.now.members _ _ (omega arith))
