use Rattle.std.proofs.Common.{sym, ◌∙◌}
use Rattle.wire.proofs.Laws.{four}
use Rattle.wire.proofs.word_at.Goals as goal

pub returns : goal.returns
returns c = c.from_le_bytes.ensures ∙ sym (four c.args.s.now c.args.at c.requires)
