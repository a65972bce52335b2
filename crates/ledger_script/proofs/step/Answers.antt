use Rattle.std.proofs.Common.{sym}
use borrow.Author.Tests.{eqb-true, eqb-false}
use Rattle.ledger_script.proofs.Readings.{step-item, step_end}
use Rattle.ledger_script.proofs.step.Goals as goal

pub returns-then-is_empty : goal.returns-then-is_empty
returns-then-is_empty c = step_end _ _ _ _ _ (eqb-true _ 0 (sym c.if-is_empty.ensures)) c.ends.ensures

pub returns-in-Some : goal.returns-in-Some
returns-in-Some c =
    rw (step-item c.args.state c.args.at c.args.call.now (eqb-false _ _ (sym c.if-is_empty.ensures)), sym c.in-Some.ensures) (c.make.ensures c.args.at)

pub returns-in-None : goal.returns-in-None
returns-in-None c =
    rw (step-item c.args.state c.args.at c.args.call.now (eqb-false _ _ (sym c.if-is_empty.ensures)), sym c.in-None.ensures) c.unreadable.ensures
