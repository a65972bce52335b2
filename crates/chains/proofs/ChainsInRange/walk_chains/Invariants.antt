-- The walk along the chains so far, and the stretch of each.
use Rattle.chains.proofs.Walks.{Across}
use Rattle.chains.proofs.ChainsInRange.walk_chains.Given as goal

abbrev pub invariant-loop-j : goal.invariant-loop-j
invariant-loop-j l = Across l.self.chains l.walk l.stretches l.j
