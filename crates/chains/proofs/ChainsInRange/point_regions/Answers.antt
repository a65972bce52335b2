use Rattle.std.proofs.Common.{rules, tests, ◌+◌, arith}
use Rattle.trace.proofs.Arrays.{from_fn_replicate}
use Rattle.chains.specs.Chains.{region_at, point_regions}
use Rattle.chains.proofs.ChainsInRange.point_regions.Goals as goal

pub returns : goal.returns
unfolding point_regions
returns c =
    let chains = c.args.self.now.chains in
    from_fn_replicate _ _ (region_at chains) c.from_fn.result 0 80 (chains.units + chains.aggregates)
    (omega (arith, c.args.self.now.walkable.units, c.args.self.now.walkable.aggregates)) c.from_fn.ensures.items (λ k y q l m. search (rules, tests))
