use Rattle.std.proofs.Common.{◌≡◌, ◌∙◌, sym, ap, ap₂, Bool, ℤ, w32}
use Rattle.std.proofs.lemmas.Int.{to_z-of_z}
use Rattle.plants.specs.Rosters.{held}
use Rattle.points.specs.Points.{declared_at}
use Rattle.points.specs.declared.Reason.TheVariants.{ByOperator}
use Rattle.intervals.specs.Plants.{is_unidirectional_at}
use Rattle.intervals.specs.Monitors.{point_at}
use Rattle.operators.specs.Operators.{permit_declare, permit, change, stored}
use Rattle.operators.proofs.Operated.{found, judged, unfound}
use Rattle.operators.proofs.Refusals.{operator-refused, operator-accepted}
use Rattle.operators.proofs.declare.Goals as goal
use Rattle.operators.proofs.declare.Goals.{After-permit_declare}

-- what is asked of the point's record
asked : (c : After-permit_declare)
    → permit_declare (is_unidirectional_at (held c.in_ok-located.located.roster) c.in_ok-located.located.place) c.args.level
    (point_at c.args.m.now c.in_ok-located.located.place)
    ≡ c.permit_declare.result
asked c =
    ap₂ (λ (u : Bool) (z : ℤ). permit_declare u z (point_at c.args.m.now c.in_ok-located.located.place))
    (sym c.is_unidirectional.ensures) (sym (to_z-of_z w32 c.args.level c.ranges.level))
    ∙ sym c.permit_declare.ensures

pub returns-in_err-located : goal.returns-in_err-located
returns-in_err-located c = operator-refused _ _ _ (unfound _ _ c.locate.ensures.located c.in_err-located.was _) c.from_residual.ensures.1

pub returns-in_err-permit_declare : goal.returns-in_err-permit_declare
unfolding permit
returns-in_err-permit_declare c =
    let f = found _ _ c.locate.ensures.located c.in_ok-located.was in
    operator-refused _ _ _
    (judged _ _ f _ ∙ asked (goal.at.returns-in_err-permit_declare c).After-permit_declare ∙ c.in_err-permit_declare.was)
    c.from_residual-in_err-permit_declare.ensures.1

pub returns : goal.returns
unfolding permit change
returns c =
    let f = found _ _ c.locate.ensures.located c.in_ok-located.was in
    operator-accepted _ _ _ (judged _ _ f _ ∙ asked (goal.at.returns c).After-permit_declare ∙ c.in_ok-permit_declare.was)
    (c.store.ensures ∙ ap₂ (stored c.args.m.now) f.place
    (c.declare.ensures ∙ ap (λ (z : ℤ). declared_at z ByOperator) (to_z-of_z w32 c.args.level c.ranges.level)))
