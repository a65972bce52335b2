use borrow.Author.Tests.{not-true, not-false}
use Rattle.ledger.specs.Ledgers.{reinstated}
use Rattle.ledger.proofs.Refusals.{undeclared, declared}
use Rattle.ledger.proofs.reinstate.Goals as goal

pub returns-then-not-ledger : goal.returns-then-not-ledger
returns-then-not-ledger c = undeclared _ (not-true _ c.if-not-ledger.true)

pub returns : goal.returns
unfolding reinstated
returns c = rw c.new_ledger.ensures.result (declared _ (not-false _ c.if-not-ledger.false))
