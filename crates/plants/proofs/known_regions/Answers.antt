use Rattle.std.proofs.Common.{rules, tests, refl, ◌∙◌, take}
use Rattle.std.proofs.lemmas.Iterator.{YieldsList-from_slice}
use Rattle.std.proofs.lemmas.Iterator.Search.{all_from_yields_List}
use Rattle.trace.proofs.Sweeps.{every_take}
use Rattle.plants.specs.Rosters.{is_region, regions_known}
use Rattle.plants.proofs.known_regions.Goals as goal

pub returns : goal.returns
unfolding regions_known
returns c =
    all_from_yields_List is_region _ _ _ c.all.ensures.ran (YieldsList-from_slice (take c.args.count c.args.regions.now) cc)
    (λ x b q k. search (rules, tests))
    ∙ every_take is_region _ c.args.regions.now 0 c.args.count (search rules) (λ i l. refl)
