use Rattle.std.proofs.Common.{◌≡◌, ◌∙◌, sym}
use Rattle.std.specs.Prelude.{Some}
use Rattle.intervals.specs.Monitors.{sound_roster}
use Rattle.operators.proofs.Operated.{unheld, few, located, inside, unnamed}
use Rattle.operators.proofs.locate.Goals as goal
use Rattle.operators.proofs.locate.Goals.{In-Some}

-- the state passes its test
passes : (c : In-Some) → Some c.in-Some.roster ≡ sound_roster c.args.m.now
passes c = sym c.in-Some.is ∙ c.sound_roster.ensures

pub is_named-requires : goal.is_named-requires
is_named-requires c = few _ c.args.point (passes (goal.at.is_named-requires c).In-Some)

pub returns-in_default-clause-located : goal.returns-in_default-clause-located
returns-in_default-clause-located c = sym (unheld _ _ (sym c.in_default.is ∙ c.sound_roster.ensures))

pub returns-then-not-is_named-clause-located : goal.returns-then-not-is_named-clause-located
returns-then-not-is_named-clause-located c =
    sym (unnamed _ _ (passes (goal.at.returns-then-not-is_named-clause-located c).In-Some) c.is_named.ensures c.if-not-is_named.true)

pub returns-clause-located : goal.returns-clause-located
returns-clause-located c =
    sym (located _ _ (passes (goal.at.returns-clause-located c).In-Some) c.is_named.ensures c.if-not-is_named.false)

pub returns-clause-within : goal.returns-clause-within
returns-clause-within c =
    let lent = passes (goal.at.returns-clause-within c).In-Some in
    ((few _ c.args.point lent).0, inside _ _ lent c.is_named.ensures c.if-not-is_named.false)
