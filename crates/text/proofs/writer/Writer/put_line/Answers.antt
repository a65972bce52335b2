use Rattle.text.specs.Fields.{texts}
use Rattle.text.proofs.Fields.{line-joined}
use Rattle.text.proofs.Puts.{room-first}
use Rattle.text.proofs.Writers.{room-left, then}
use Rattle.text.proofs.writer.Writer.put_line.Goals as goal

pub put_fields-requires : goal.put_fields-requires
put_fields-requires c = room-first _ _ (rw (line-joined (texts c.args.fields.now)) at c.requires)

pub put_byte-requires : goal.put_byte-requires
put_byte-requires c = room-left c.put_fields.ensures _ (rw (line-joined (texts c.args.fields.now)) at c.requires)

pub returns : goal.returns
returns c =
    let whole = line-joined (texts c.args.fields.now) in
    rw whole (then c.put_fields.ensures (rw whole at c.requires) c.put_byte.ensures)
