use Rattle.std.proofs.Common.{ℕ, take, replicate, arith}
use Rattle.std.proofs.lemmas.List.{take-replicate}
use Rattle.turns.proofs.Turns.{turned}
use Rattle.program.proofs.Turns.{header-inside, number-read, accepted-size}
use Rattle.script.specs.Texts.{interval_text}
use Rattle.script.specs.Steps.{answered}
use Rattle.script.proofs.Readings.{interval-so}
use Rattle.intervals.proofs.Refusals.{accepted-next, refused-same}
use Rattle.script.proofs.calls.interval.Goals as goal

pub word_at-requires : goal.word_at-requires
word_at-requires c = header-inside _ _ _ _ (accepted-next c.in-Ok.is c.interval.ensures.next)

pub put_accepted-length-requires : goal.put_accepted-length-requires
put_accepted-length-requires c =
    let small = accepted-size _ _ _ _ (accepted-next c.in-Ok.is c.interval.ensures.next) in
    omega arith

pub returns-in-Ok : goal.returns-in-Ok
unfolding interval_text
returns-in-Ok c =
    let a = c.args in
    let is = accepted-next c.in-Ok.is c.interval.ensures.next in
    let lines = rw (c.word_at.ensures, ← number-read _ _ _ _ is, c.interval.ensures.bytes) at c.put_accepted-length.ensures in
    rw (← take-replicate {X = ℕ} a.room.bytes 4096 0 a.room.within, interval-so a.m a.buffer.now (take a.room.bytes (replicate 4096 0)) is)
    (turned (answered c.interval.new.m _) _ c.continues.ensures lines)

pub returns-in-Err : goal.returns-in-Err
unfolding interval_text
returns-in-Err c =
    let a = c.args in
    let is = refused-same c.in-Err.is c.interval.ensures.next in
    rw (← take-replicate {X = ℕ} a.room.bytes 4096 0 a.room.within, interval-so a.m a.buffer.now (take a.room.bytes (replicate 4096 0)) is.0)
    (rw is.1 at c.refuse.ensures)
