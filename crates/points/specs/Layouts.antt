-- A point's 16 bytes of the report, said a second time, byte by byte (01, "Report and operator calls": "One 16-byte record a point: status;
-- mark ..; small run; large run; error (i32); small trigger (u32); level (i32)").
use Rattle.std.specs.Prelude.{◌≡◌, List, ℕ, length, get_or}
use Rattle.wire.specs.Words.{Word, Whole}
use Rattle.marks.specs.Numbers.{Numbered}
use Rattle.marks.specs.declared.Assessment.{Assessment}
use Rattle.points.specs.declared.Point.{Point}

pub record RecordBytes (a : Assessment) (p : Point) (bytes : List ℕ) : Type 0 where
  pub sixteen : length bytes ≡ 16
  pub status : get_or bytes 0 0 ≡ p.status
  pub mark : Numbered a.mark (get_or bytes 1 0)
  pub small_run : get_or bytes 2 0 ≡ p.small.count
  pub large_run : get_or bytes 3 0 ≡ p.large.count
  pub error : Whole bytes 4 a.error
  pub trigger : Word bytes 8 a.trigger
  pub level : Whole bytes 12 p.level
