use Rattle.std.proofs.Common.{arith}
use Rattle.program.specs.Steps.{refused}
use Rattle.text.proofs.Rooms.{put-within}
use Rattle.turns.proofs.Turns.{turned}
use Rattle.program.proofs.refuse.Goals as goal

pub returns : goal.returns
returns c = turned (refused c.args.m c.args.number) _ c.ends.ensures (put-within (omega arith) c.put_line-length.ensures)
