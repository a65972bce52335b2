use Rattle.std.proofs.Common.{arith}
use Rattle.text.proofs.Rooms.{put-within}
use Rattle.turns.proofs.Turns.{turned}
use Rattle.script.specs.Steps.{unread}
use Rattle.script.proofs.unreadable.Goals as goal

pub returns : goal.returns
returns c = turned (unread c.args.m c.args.at) _ c.ends.ensures (put-within (omega arith) c.put_line-length.ensures)
