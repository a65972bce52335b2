-- After i turns the first i of the other fields are put.
use Rattle.std.proofs.Common.{take}
use Rattle.text.specs.Lines.{behind}
use Rattle.text.specs.Writers.{Writes}
use Rattle.text.specs.Fields.{texts}
use Rattle.text.proofs.writer.Writer.put_fields.Given as goal

abbrev pub invariant-loop-field : goal.invariant-loop-field
invariant-loop-field l = Writes l.initial.self (behind (texts (take l.field-index l.others))) l.self
