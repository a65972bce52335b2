use Rattle.turns.proofs.Turns.{turned}
use Rattle.ledger_script.specs.Steps.{goes_on}
use Rattle.ledger_script.proofs.refuse.Goals as goal

pub returns : goal.returns
returns c = turned (goes_on c.args.state _) _ c.continues.ensures (rw c.from.ensures at c.put_numbered.ensures)
