use Rattle.std.proofs.Common.{◌≡◌, length, take, replicate, refl, sym, ◌∙◌, arith}
use borrow.Author.Tests.{eqb-true, eqb-false}
use lib.ListN.{length-replicate}
use lib.Seq.{length-take-le}
use Rattle.turns.proofs.Turns.{silent}
use Rattle.program.specs.Steps.{ended}
use Rattle.program.proofs.Turns.{stepped-end, stepped-taken}
use Rattle.program.proofs.step.Goals as goal

pub returns-then-is_empty : goal.returns-then-is_empty
returns-then-is_empty c =
    rw (stepped-end c.args.m c.args.buffer.now (eqb-true _ _ (sym c.if-is_empty.ensures))) (silent (ended c.args.m) _ refl c.ends.ensures)

pub returns : goal.returns
returns c =
    let size = c.report_size-size.result in
    let room = replicate 1280 0 in
    let sized : length (take size room) ≡ size = length-take-le size room (rw length-replicate (omega arith)) in
    let some = eqb-false _ _ (sym c.if-is_empty.ensures) in
    rw (stepped-taken c.args.m c.args.buffer.now (take size room) some (sized ∙ c.report_size-size.ensures)) c.take.ensures
