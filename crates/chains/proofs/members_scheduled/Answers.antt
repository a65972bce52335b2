use Rattle.std.proofs.Common.{rules, tests, ◌∙◌, ℕ, Bool, arith}
use Rattle.std.proofs.lemmas.Iterator.{YieldsList-from_range}
use Rattle.std.proofs.lemmas.Iterator.Search.{all_from_yields_List}
use Rattle.trace.proofs.Ranges.{all_range}
use Rattle.chains.specs.Rules.{scheduled_at}
use Rattle.chains.proofs.members_scheduled.Goals as goal

pub returns : goal.returns
returns c =
    let test : ℕ → Bool = scheduled_at c.args.met c.args.chains.kinds in
    all_from_yields_List test _ _ _ c.all.ensures.ran (YieldsList-from_range 0 c.args.chains.units c.args.chains.units (cc) (omega arith))
    (λ x b q k. search (rules, tests))
    ∙ all_range test c.args.chains.units
