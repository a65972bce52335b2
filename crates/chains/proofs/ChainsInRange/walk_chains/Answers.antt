use Rattle.std.proofs.Common.{rules, ◌≡◌, replicate, false}
use Rattle.plants.specs.Rosters.{no_stretch}
use Rattle.chains.specs.Walks.{unwalked}
use Rattle.chains.proofs.Indices.{head-inside}
use Rattle.chains.proofs.Walks.{across-none, across-rises, across-more, across-walk, across-stretches, same-each}
use Rattle.chains.proofs.ChainsInRange.walk_chains.Goals as goal

pub loop-j-init : goal.loop-j-init
loop-j-init c =
    let none : c.default-stretches.result ≡ no_stretch = search (rules) in
    let met : c.default-walk.result.met ≡ replicate 64 false = search (rules, same-each) in
    let members : c.default-walk.result.members ≡ replicate 64 0 = search (rules, same-each) in
    let fresh : c.default-walk.result ≡ unwalked = search (rules, met, members) in
    rw (none, fresh) (across-none c.args.self.now.chains c.args.self.now.walkable)

pub walk_chain-walk-requires : goal.walk_chain-walk-requires
walk_chain-walk-requires c = search (rules, head-inside)

pub overflow_sub-stretches : goal.overflow_sub-stretches
overflow_sub-stretches c = search (rules, across-rises)

pub loop-j-preserved : goal.loop-j-preserved
loop-j-preserved c = search (rules, across-more)

pub returns : goal.returns
returns c = search (rules, across-walk, across-stretches)
