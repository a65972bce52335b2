use Rattle.std.proofs.Common.{ap}
use Rattle.intervals.specs.Monitors.{point_at}
use Rattle.operators.specs.Operators.{permit}
use Rattle.operators.proofs.Operated.{found, judged, unfound}
use Rattle.operators.proofs.Refusals.{look-refused, look-accepted}
use Rattle.operators.proofs.look.Goals as goal

pub returns-in_err-located : goal.returns-in_err-located
returns-in_err-located c = look-refused _ _ (unfound _ _ c.locate.ensures.located c.in_err-located.was _) c.from_residual.ensures.1

pub returns : goal.returns
unfolding permit
returns c =
    let f = found _ _ c.locate.ensures.located c.in_ok-located.was in
    look-accepted _ _ (judged _ _ f _) (ap (point_at c.args.m.now) f.place)
