use Rattle.std.proofs.Common.{sym, ◌∙◌}
use Rattle.turns.proofs.Turns.{turned}
use Rattle.ledger_script.proofs.reinstate.Goals as goal

pub returns-in-Ok : goal.returns-in-Ok
returns-in-Ok c = rw (sym c.reinstate.ensures.result ∙ c.in-Ok.is) (turned _ _ c.continues.ensures c.put_reinstated.ensures)
