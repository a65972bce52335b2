use Rattle.std.proofs.Common.{rules, tests, refl, ◌∙◌, take, Option, None, Bool}
use Rattle.std.specs.Option.{is_some}
use Rattle.std.proofs.lemmas.Iterator.{YieldsList-from_slice}
use Rattle.std.proofs.lemmas.Iterator.Search.{all_from_yields_List}
use Rattle.kinds.specs.declared.Kind.{Kind}
use Rattle.trace.proofs.Sweeps.{every_take}
use Rattle.plants.specs.Rosters.{kinds_known}
use Rattle.plants.proofs.known_kinds.Goals as goal

pub returns : goal.returns
unfolding kinds_known
returns c =
    let test : Option Kind → Bool = is_some in
    all_from_yields_List test _ _ _ c.all.ensures.ran (YieldsList-from_slice (take c.args.units c.args.kinds.now) cc) (λ x b q k. search (rules, tests))
    ∙ every_take test _ c.args.kinds.now None c.args.units (search rules) (λ i l. refl)
