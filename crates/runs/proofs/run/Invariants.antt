-- A step takes at most 8,200 bytes, so the place of the last is far below 2 ^ 64.
use Rattle.std.proofs.Common.{◌≤◌, ◌*◌}
use Rattle.runs.proofs.run.Given as goal

abbrev pub invariant-loop : goal.invariant-loop
invariant-loop g l = l.at ≤ 8200 * l.counter
