use Rattle.text.proofs.Writers.{room-left, then}
use Rattle.text.proofs.writer.Writer.put_next.Goals as goal

pub put_field-requires : goal.put_field-requires
put_field-requires c = room-left c.put_byte.ensures _ c.requires

pub returns : goal.returns
returns c = then c.put_byte.ensures c.requires c.put_field.ensures
