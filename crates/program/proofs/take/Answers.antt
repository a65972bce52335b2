use Rattle.std.proofs.Common.{arith}
use Rattle.program.specs.Steps.{accepted}
use Rattle.text.proofs.Rooms.{put-within}
use Rattle.turns.proofs.Turns.{turned}
use Rattle.program.proofs.Turns.{header-inside, number-read, taken-so}
use Rattle.intervals.proofs.Refusals.{accepted-next, refused-same}
use Rattle.program.proofs.take.Goals as goal

pub word_at-requires : goal.word_at-requires
word_at-requires c = header-inside _ _ _ _ (accepted-next c.in-Ok.is c.interval.ensures.next)

pub returns-in-Ok : goal.returns-in-Ok
returns-in-Ok c =
    let a = c.args in
    let is = accepted-next c.in-Ok.is c.interval.ensures.next in
    let put = put-within (omega arith) c.put_report-length.ensures in
    let lines = rw (c.word_at.ensures, ← number-read _ _ _ _ is, c.interval.ensures.bytes) at put in
    rw (taken-so a.m a.buffer.now a.report.now is) (turned (accepted c.interval.new.m _) _ c.continues.ensures lines)

pub returns-in-Err : goal.returns-in-Err
returns-in-Err c =
    let a = c.args in
    let is = refused-same c.in-Err.is c.interval.ensures.next in
    rw (taken-so a.m a.buffer.now a.report.now is.0) (rw (is.1, c.from.ensures) at c.refuse.ensures)
