use Rattle.std.proofs.Common.{◌∙◌, sym, ap}
use Rattle.intervals.specs.Monitors.{target_at}
use Rattle.operators.specs.Operators.{permit}
use Rattle.operators.proofs.Operated.{found, judged, unfound, aggregate-of, permitted-target, refused-target}
use Rattle.operators.proofs.Refusals.{target-refused, target-accepted}
use Rattle.operators.proofs.target.Goals as goal

pub returns-in_err-located : goal.returns-in_err-located
returns-in_err-located c = target-refused _ _ (unfound _ _ c.locate.ensures.located c.in_err-located.was _) c.from_residual.ensures.1

pub returns-in_err-aggregate : goal.returns-in_err-aggregate
unfolding permit
returns-in_err-aggregate c =
    let f = found _ _ c.locate.ensures.located c.in_ok-located.was in
    let refused = refused-target c.in_ok-located.located.roster _ _ c.checked_sub.ensures (sym c.ok_or.ensures.value ∙ c.in_err-aggregate.was) in
    target-refused _ _ (judged _ _ f _ ∙ refused) c.from_residual-in_err-aggregate.ensures.1

pub returns : goal.returns
unfolding permit
returns c =
    let f = found _ _ c.locate.ensures.located c.in_ok-located.was in
    let is = permitted-target c.in_ok-located.located.roster _ _ c.checked_sub.ensures (sym c.ok_or.ensures.value ∙ c.in_ok-aggregate.was) in
    target-accepted _ _ (judged _ _ f _ ∙ is.0) (ap (target_at c.args.m.now) (is.1 ∙ sym (aggregate-of _ _ f)))
