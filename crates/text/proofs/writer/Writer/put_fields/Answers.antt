use Rattle.text.proofs.Writers.{nothing}
use Rattle.text.proofs.Fields.{none, others-room, others-put, next-room, next-put, all-put}
use Rattle.text.proofs.writer.Writer.put_fields.Goals as goal

pub returns-in_default : goal.returns-in_default
returns-in_default c = rw (none c.args.fields.now c.in_default.len_below) (nothing _)

pub loop-field-init : goal.loop-field-init
loop-field-init c = nothing _

pub put_next-requires : goal.put_next-requires
put_next-requires c =
    let room = others-room _ _ c.in-len1-up.len_at_least c.requires c.put_field.ensures in
    next-room _ _ _ c.loop-field-test.true room c.loop-field.invariant

pub loop-field-preserved : goal.loop-field-preserved
loop-field-preserved c =
    let room = others-room _ _ c.in-len1-up.len_at_least c.requires c.put_field.ensures in
    next-put _ _ _ c.loop-field-test.true room c.loop-field.invariant c.put_next.ensures

pub returns : goal.returns
returns c =
    let put = all-put _ _ c.loop-field-test.false c.loop-field.invariant in
    others-put _ _ c.in-len1-up.len_at_least c.requires c.put_field.ensures put
