use Rattle.std.proofs.Common.{◌∙◌, sym, ap₂}
use Rattle.operators.specs.Operators.{permit, change, stored}
use Rattle.operators.proofs.Operated.{found, judged, unfound}
use Rattle.operators.proofs.Refusals.{operator-refused, operator-accepted}
use Rattle.operators.proofs.reinstate.Goals as goal

pub returns-in_err-located : goal.returns-in_err-located
returns-in_err-located c = operator-refused _ _ _ (unfound _ _ c.locate.ensures.located c.in_err-located.was _) c.from_residual.ensures.1

pub returns-in_err-permit_declared : goal.returns-in_err-permit_declared
unfolding permit
returns-in_err-permit_declared c =
    let f = found _ _ c.locate.ensures.located c.in_ok-located.was in
    operator-refused _ _ _ (judged _ _ f _ ∙ sym c.permit_declared.ensures ∙ c.in_err-permit_declared.was)
    c.from_residual-in_err-permit_declared.ensures.1

pub returns : goal.returns
unfolding permit change
returns c =
    let f = found _ _ c.locate.ensures.located c.in_ok-located.was in
    operator-accepted _ _ _ (judged _ _ f _ ∙ sym c.permit_declared.ensures ∙ c.in_ok-permit_declared.was)
    (c.store.ensures ∙ ap₂ (stored c.args.m.now) f.place c.reinstate.ensures)
