use Rattle.std.proofs.Common.{rules, tests, ◌∙◌, ℕ, Bool, arith}
use Rattle.std.proofs.lemmas.Iterator.{YieldsList-from_range}
use Rattle.std.proofs.lemmas.Iterator.Search.{all_from_yields_List}
use Rattle.trace.proofs.Ranges.{all_range}
use Rattle.plants.specs.Plants.{shares_region, regions_shared}
use Rattle.plants.specs.Rosters.{held}
use Rattle.plants.proofs.regions_shared.Goals as goal

pub returns : goal.returns
unfolding regions_shared
returns c =
    let aggregates : ℕ = c.args.roster.now.aggregates in
    let test : ℕ → Bool = shares_region (held c.args.roster.now) in
    all_from_yields_List test _ _ _ c.all.ensures.ran (YieldsList-from_range 0 aggregates aggregates (cc) (omega arith))
    (λ x b q k. search (rules, tests))
    ∙ all_range test aggregates
