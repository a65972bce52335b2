use Rattle.std.proofs.Common.{rules}
use Rattle.chains.proofs.Walks.{along-more, along-end, along-out}
use Rattle.chains.proofs.ChainsInRange.walk_chain.Goals as goal

pub returns-in_default : goal.returns-in_default
returns-in_default c = search (rules, along-end)

pub loop-preserved : goal.loop-preserved
loop-preserved c =
    let unit = c.in-Some.ensures in
    rw c.from.ensures
    (along-more _ _ _ c.args.self.now.walkable _ _ _ _ _ c.loop-test.true unit.0 c.loop.invariant unit.1 c.step_to.ensures)

pub returns : goal.returns
returns c = search (rules, along-out)
