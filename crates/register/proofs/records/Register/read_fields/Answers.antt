use Rattle.std.proofs.Common.{◌∙◌}
use Rattle.register.proofs.Parts.{kinds-in, regions-in, nexts-in, heads-in}
use Rattle.register.proofs.Readings.{fields_read}
use Rattle.register.proofs.records.Register.read_fields.Goals as goal

pub returns : goal.returns
returns c =
    let headed = c.args.self.now.headed in
    let units = c.units_and_heads.ensures.units in
    let heads = c.units_and_heads.ensures.heads in
    fields_read _ _ headed _ _ _ _ _ _ _ _ units.1 heads.1 c.lengths_at.ensures c.lengths_at-2.ensures
    (c.kinds.ensures ∙ rw (units.1, units.0) (kinds-in _ _ headed))
    (c.fields.ensures ∙ rw (units.1, units.0) (regions-in _ _ headed))
    (c.fields-2.ensures ∙ rw (units.1, units.0) (nexts-in _ _ headed))
    (c.fields-3.ensures ∙ rw (heads.1, heads.0) (heads-in _ _ headed))
