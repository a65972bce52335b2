use Rattle.std.proofs.Common.{arith}
use Rattle.records.proofs.Bounds.{bounded}
use Rattle.response.proofs.totals.Totals.plus.Goals as goal

pub overflow_add-result-2 : goal.overflow_add-result-2
overflow_add-result-2 c = record { fits = omega (arith, c.requires.small.target, (bounded _ c.requires.bounded).target) }
