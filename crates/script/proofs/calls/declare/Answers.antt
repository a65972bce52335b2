use Rattle.std.proofs.Common.{w32}
use Rattle.std.proofs.lemmas.Int.{to_z-of_z}
use Rattle.intervals.proofs.Refusals.{refused-same}
use Rattle.script.specs.Texts.{declare_text}
use Rattle.script.proofs.Readings.{declare-so}
use Rattle.script.proofs.calls.declare.Goals as goal

pub returns-in-Err : goal.returns-in-Err
unfolding declare_text
returns-in-Err c =
    let a = c.args in
    let answered = rw (to_z-of_z w32 a.level c.ranges.level) at c.declare.ensures in
    let is = refused-same c.in-Err.is answered in
    rw (declare-so a.m a.level a.point is.0) (rw is.1 at c.refuse.ensures)
