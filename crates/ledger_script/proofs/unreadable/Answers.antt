use Rattle.turns.proofs.Turns.{turned}
use Rattle.ledger_script.specs.Steps.{unread}
use Rattle.ledger_script.proofs.unreadable.Goals as goal

pub returns : goal.returns
returns c = turned (unread c.args.state c.args.at) _ c.ends.ensures c.put_numbered.ensures
