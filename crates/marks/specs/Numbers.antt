-- The marks by their numbers, said a second time, as a list (01, "Report and operator calls").
use Rattle.std.specs.Prelude.{ℕ}
use Rattle.marks.specs.declared.Mark.{Mark}
use Rattle.marks.specs.declared.Mark.TheVariants.{Off, Blank, Clear, Doubt, Small, Large}

-- "mark (0 OFF, 1 BLANK, 2 CLEAR, 3 DOUBT, 4 SMALL, 5 LARGE)"
pub data Numbered : Mark → ℕ → Type 0 where
  off_0 : Numbered Off 0
  blank_1 : Numbered Blank 1
  clear_2 : Numbered Clear 2
  doubt_3 : Numbered Doubt 3
  small_4 : Numbered Small 4
  large_5 : Numbered Large 5
