use Rattle.std.proofs.Common.{sym, ◌∙◌}
use Rattle.turns.proofs.Turns.{turned}
use Rattle.ledger_script.proofs.enter.Goals as goal

pub returns-in-Ok : goal.returns-in-Ok
returns-in-Ok c = rw (sym c.enter.ensures.result ∙ c.in-Ok.is) (turned _ _ c.continues.ensures c.put_accepted.ensures)
