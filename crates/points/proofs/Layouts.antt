-- The bytes of a record are those that `RecordBytes` says. Assumes nothing.
use mathlib.Core.Path.{refl}
use Prim.Native.Nat.{◌^◌, ◌<◌}
use native.Mathlib.Omega.{arith}
use mir.Syntax.{w32}
use mir.Val.{SFits}
use Rattle.wire.specs.Words.{unsigned_of}
use Rattle.wire.proofs.Words.{bytes-word, word-sum, unsigned-bits, unsigned-below}
use Rattle.marks.proofs.MarkNumbers.{mark-numbered}
use Rattle.marks.specs.declared.Assessment.{Assessment}
use Rattle.points.specs.Records.{record_of}
use Rattle.points.specs.Layouts.{RecordBytes}
use Rattle.points.specs.declared.Point.{Point}

pub record-said : (a : Assessment) (p : Point) → SFits w32 a.error → a.trigger < 2 ^ 32 → SFits w32 p.level → RecordBytes a p (record_of a p)
unfolding record_of
record-said a p error trigger level =
    rw (unsigned-bits a.error, unsigned-bits p.level, bytes-word (unsigned_of a.error), bytes-word a.trigger, bytes-word (unsigned_of p.level)) (
    record {
      sixteen = refl;
      status = refl;
      mark = mark-numbered a.mark;
      small_run = refl;
      large_run = refl;
      error = omega (arith, word-sum (unsigned_of a.error) (unsigned-below a.error error));
      trigger = omega (arith, word-sum a.trigger trigger);
      level = omega (arith, word-sum (unsigned_of p.level) (unsigned-below p.level level));
    }
    )
