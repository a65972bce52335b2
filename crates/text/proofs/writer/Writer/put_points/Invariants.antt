-- The lines of the records so far are put, and the others stand in the iterator, whose next point is theirs.
use Rattle.std.proofs.Common.{◌≡◌, ◌+◌, ◌/◌, length, drop}
use Rattle.std.specs.Simd.{first_chunks}
use Rattle.text.proofs.Lines.{Lined}
use Rattle.text.proofs.writer.Writer.put_points.Given as goal

abbrev pub invariant-loop-record : goal.invariant-loop-record
invariant-loop-record l = record {
  lines : Lined l.interval l.report l.initial.self (length l.yielded) l.self;
  records : l.record-iterator.a.rest.now ≡ drop (length l.yielded) (first_chunks 16 (length l.report / 16) l.report);
  point : l.record-iterator.b.start ≡ length l.yielded + 1;
}
