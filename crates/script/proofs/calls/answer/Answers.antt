use Rattle.std.proofs.Common.{arith}
use Rattle.text.proofs.Rooms.{put-within}
use Rattle.turns.proofs.Turns.{turned}
use Rattle.script.specs.Steps.{answered}
use Rattle.script.proofs.calls.answer.Goals as goal

pub returns : goal.returns
returns c = turned (answered c.args.m _) _ c.continues.ensures (put-within (omega arith) c.put_line-length.ensures)
