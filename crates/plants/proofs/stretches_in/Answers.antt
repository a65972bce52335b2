use Rattle.std.proofs.Common.{rules, tests, refl, ◌∙◌, take}
use Rattle.std.proofs.lemmas.Iterator.{YieldsList-from_slice}
use Rattle.std.proofs.lemmas.Iterator.Search.{all_from_yields_List}
use Rattle.trace.proofs.Sweeps.{every_take}
use Rattle.plants.specs.Rosters.{no_stretch, stretch_in, stretches_in}
use Rattle.plants.proofs.stretches_in.Goals as goal

pub returns : goal.returns
unfolding stretches_in
returns c =
    all_from_yields_List stretch_in _ _ _ c.all.ensures.ran (YieldsList-from_slice (take c.args.aggregates c.args.stretches.now) cc)
    (λ x b q k. search (rules, tests))
    ∙ every_take stretch_in _ c.args.stretches.now no_stretch c.args.aggregates (search rules) (λ i l. refl)
