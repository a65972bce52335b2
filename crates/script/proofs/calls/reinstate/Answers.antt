use Rattle.intervals.proofs.Refusals.{refused-same}
use Rattle.script.specs.Texts.{reinstate_text}
use Rattle.script.proofs.Readings.{reinstate-so}
use Rattle.script.proofs.calls.reinstate.Goals as goal

pub returns-in-Err : goal.returns-in-Err
unfolding reinstate_text
returns-in-Err c =
    let a = c.args in
    let is = refused-same c.in-Err.is c.reinstate.ensures in
    rw (reinstate-so a.m a.point is.0) (rw is.1 at c.refuse.ensures)
