-- The mark as a number, and the C host's function (01, "Report and operator calls").
use Rattle.std.specs.Prelude.{false, cond, ◌&&◌, List, ℕ, leb, eqb, Option, length}
use Rattle.kinds.specs.Kinds.{kind_of}
use Rattle.kinds.specs.declared.Kind.{Kind}
use Rattle.telemetry.specs.Lines.{line_of}
use Rattle.marks.specs.KeptLines.{kept_from}
use Rattle.marks.specs.Assessments.{unit_assessment}
use Rattle.marks.specs.declared.Mark.{Mark}
use Rattle.marks.specs.declared.Mark.TheVariants.{Off, Blank, Clear, Doubt, Small, Large}

-- "mark (0 OFF, 1 BLANK, 2 CLEAR, 3 DOUBT, 4 SMALL, 5 LARGE)"
unfoldable pub mark_number : Mark → ℕ
mark_number Off = 0
mark_number Blank = 1
mark_number Clear = 2
mark_number Doubt = 3
mark_number Small = 4
mark_number Large = 5

-- "two successive 40-byte lines of a unit in no chain .. its mark for the second"
unfoldable pub second_mark : Option Kind → List ℕ → List ℕ → ℕ
second_mark kind earlier later =
    mark_number
    (unit_assessment false
    (record { kind = kind; line = line_of kind false later; kept = kept_from (line_of kind false earlier) })).mark

-- "an unknown kind, or a line that is not 40 bytes, gives 6"; kinds 1 to 4 are known
unfoldable pub unit_mark_of : ℕ → List ℕ → List ℕ → ℕ
unit_mark_of kind earlier later =
    cond ((eqb (length earlier) 40 && eqb (length later) 40) && (leb 1 kind && leb kind 4)) (second_mark (kind_of kind) earlier later) 6
