use Rattle.std.proofs.Common.{arith}
use Rattle.std.proofs.lemmas.Grind.{common_steps}
use Rattle.register.proofs.Parts.{spares-in}
use Rattle.register.proofs.records.Register.fields_known.Goals as goal

pub returns-then-spares : goal.returns-then-spares
returns-then-spares c =
    let same = spares-in _ _ c.args.self.now.headed _ _ c.units_and_heads.ensures.units.0 c.units_and_heads.ensures.heads.0 in
    grind (arith, common_steps)

pub returns-else-spares : goal.returns-else-spares
returns-else-spares c =
    let same = spares-in _ _ c.args.self.now.headed _ _ c.units_and_heads.ensures.units.0 c.units_and_heads.ensures.heads.0 in
    grind (arith, common_steps)
