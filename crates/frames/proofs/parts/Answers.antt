use Rattle.std.proofs.Common.{arith, sym}
use Rattle.frames.proofs.Calls.{frame-long}
use Rattle.frames.proofs.parts.Goals as goal

pub word_at-requires : goal.word_at-requires
word_at-requires c = omega (arith, frame-long c.args.bytes.now (sym c.if-not-is_frame.ensures))

pub slice_bounds-result-count : goal.slice_bounds-result-count
slice_bounds-result-count c = frame-long c.args.bytes.now (sym c.if-not-is_frame.ensures)

pub slice_bounds-result-start : goal.slice_bounds-result-start
slice_bounds-result-start c = frame-long c.args.bytes.now (sym c.if-not-is_frame.ensures)
