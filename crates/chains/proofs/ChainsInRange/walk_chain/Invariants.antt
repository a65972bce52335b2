-- What is left of the chain, walked from here, ends where the whole chain does.
use Rattle.chains.proofs.Walks.{Along}
use Rattle.chains.proofs.ChainsInRange.walk_chain.Given as goal

abbrev pub invariant-loop : goal.invariant-loop
invariant-loop l = Along l.self.chains l.fn.walk l.head l.walk l.unit l.counter
