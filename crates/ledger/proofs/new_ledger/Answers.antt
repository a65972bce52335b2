use Rattle.ledger.proofs.Promised.{begins-with}
use Rattle.ledger.proofs.new_ledger.Goals as goal

pub returns : goal.returns
returns c = let made = c.default.ensures in begins-with _ _ _ _ made.0 made.1.0.0 made.1.0.1 made.1.1
