use Rattle.std.proofs.Common.{refl, sym, ◌∙◌}
use Rattle.program.specs.Steps.{accepted}
use Rattle.turns.proofs.Turns.{silent}
use Rattle.program.proofs.Turns.{start-so}
use Rattle.program.proofs.start.Goals as goal

pub returns-in-Ok : goal.returns-in-Ok
returns-in-Ok c =
    rw (start-so c.args.register.now (sym c.in-Ok.is ∙ c.load.ensures.result))
    (silent (accepted c.in-Ok.loaded.monitor _) _ refl c.continues.ensures)

pub returns-in-Err : goal.returns-in-Err
returns-in-Err c =
    rw (start-so c.args.register.now (sym c.in-Err.is ∙ c.load.ensures.result)) (rw (c.begin.ensures, c.from.ensures) at c.refuse.ensures)
