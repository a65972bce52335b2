use Rattle.std.proofs.Common.{◌∙◌, sym, ap, ℕ}
use Rattle.intervals.specs.Monitors.{point_at}
use Rattle.operators.specs.Operators.{permit}
use Rattle.operators.proofs.Operated.{found, judged, unfound}
use Rattle.operators.proofs.Refusals.{reason-refused, reason-accepted}
use Rattle.operators.proofs.reason.Goals as goal

pub returns-in_err-located : goal.returns-in_err-located
returns-in_err-located c = reason-refused _ _ (unfound _ _ c.locate.ensures.located c.in_err-located.was _) c.from_residual.ensures.1

pub returns-in_err-permit_declared : goal.returns-in_err-permit_declared
unfolding permit
returns-in_err-permit_declared c =
    let f = found _ _ c.locate.ensures.located c.in_ok-located.was in
    reason-refused _ _ (judged _ _ f _ ∙ sym c.permit_declared.ensures ∙ c.in_err-permit_declared.was)
    c.from_residual-in_err-permit_declared.ensures.1

pub returns : goal.returns
unfolding permit
returns c =
    let f = found _ _ c.locate.ensures.located c.in_ok-located.was in
    reason-accepted _ _ (judged _ _ f _ ∙ sym c.permit_declared.ensures ∙ c.in_ok-permit_declared.was)
    (ap (λ (i : ℕ). (point_at c.args.m.now i).reason) f.place)
