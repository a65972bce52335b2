use Rattle.std.proofs.Common.{refl, sym}
use borrow.Author.Tests.{eqb-true, eqb-false}
use Rattle.turns.proofs.Turns.{silent}
use Rattle.program.specs.Steps.{ended}
use Rattle.script.proofs.Readings.{step-item, step_end}
use Rattle.script.proofs.step.Goals as goal

pub returns-then-is_empty : goal.returns-then-is_empty
returns-then-is_empty c =
    rw (step_end c.args.m c.args.at c.args.call.now (eqb-true _ _ (sym c.if-is_empty.ensures))) (silent (ended c.args.m) _ refl c.ends.ensures)

pub returns-in-Some : goal.returns-in-Some
returns-in-Some c =
    rw (step-item c.args.m c.args.at c.args.call.now (eqb-false _ _ (sym c.if-is_empty.ensures)), sym c.in-Some.ensures) (c.make.ensures c.args.at)

pub returns-in-None : goal.returns-in-None
returns-in-None c =
    rw (step-item c.args.m c.args.at c.args.call.now (eqb-false _ _ (sym c.if-is_empty.ensures)), sym c.in-None.ensures) c.unreadable.ensures
