-- A roster that is accepted is sound.
use Rattle.std.proofs.Common.{arith, sym, ◌∙◌}
use Rattle.plants.proofs.Soundness.{sound-units}
use Rattle.register.proofs.Accepted.{accepted-sound}
use Rattle.passes.specs.Seen.{seen_at}
use Rattle.trials.proofs.passes_trial.write_case.Goals as goal

pub assess_aggregates-passes-requires : goal.assess_aggregates-passes-requires
unfolding seen_at
assess_aggregates-passes-requires g c =
    let sound = accepted-sound _ _ (sym c.read_register.ensures.result ∙ c.in-Ok.is) in
    record { sound = sound; small = λ i l. c.views.ensures i (omega (arith, sound-units _ sound)) }
