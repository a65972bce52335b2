-- A point's 16 bytes of the report (01, "Report and operator calls").
use Rattle.std.specs.Prelude.{List, [], ◌∷◌, ◌++◌, ℕ}
use Rattle.std.specs.Int.{w32}
use Rattle.std.proofs.Common.{of_z}
use Rattle.wire.specs.Fields.{bytes_of}
use Rattle.marks.specs.Hosts.{mark_number}
use Rattle.marks.specs.declared.Assessment.{Assessment}
use Rattle.points.specs.declared.Point.{Point}

abbrev pub head_of : ℕ → Point → List ℕ
head_of mark p = p.status ∷ mark ∷ p.small.count ∷ p.large.count ∷ []

-- "status; mark ..; small run; large run; error (i32); small trigger (u32); level (i32)"
unfoldable pub record_of : Assessment → Point → List ℕ
record_of a p =
    head_of (mark_number a.mark) p
    ++ (bytes_of 4 (of_z w32 a.error) ++ (bytes_of 4 a.trigger ++ bytes_of 4 (of_z w32 p.level)))
