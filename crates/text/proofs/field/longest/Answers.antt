use Rattle.text.proofs.Fields.{longest-next}
use Rattle.text.proofs.field.longest.Goals as goal

pub loop-field-preserved : goal.loop-field-preserved
loop-field-preserved c =
    let i = c.loop-field.invariant in
    let l = c.longest.ensures in
    let next = longest-next _ _ _ _ _ _ c.loop-field-test.true l.longest l.within i.longest i.within in
    record { longest = rw (c.saturating_add-sum.ensures, c.saturating_add.ensures) next.0; within = next.1 }
