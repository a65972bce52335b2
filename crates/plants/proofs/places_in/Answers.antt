use Rattle.std.proofs.Common.{rules, tests, ltb, refl, ◌∙◌, ℕ, Bool}
use Rattle.std.proofs.lemmas.Iterator.{YieldsList-from_slice}
use Rattle.std.proofs.lemmas.Iterator.Search.{all_from_yields_List}
use Rattle.trace.proofs.Sweeps.{every_list}
use Rattle.plants.specs.Rosters.{places_in}
use Rattle.plants.proofs.places_in.Goals as goal

pub returns : goal.returns
unfolding places_in
returns c =
    let test : ℕ → Bool = λ place. ltb place c.args.units in
    all_from_yields_List test _ _ _ c.all.ensures.ran (YieldsList-from_slice c.args.members.now cc) (λ x b q k. search (rules, tests))
    ∙ every_list test _ c.args.members.now 0 64 (search rules) (λ i l. refl)
