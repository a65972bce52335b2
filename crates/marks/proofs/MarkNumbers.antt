-- Each mark has the number that it is listed with. Assumes nothing.
use Rattle.marks.specs.Hosts.{mark_number}
use Rattle.marks.specs.Numbers.{Numbered, off_0, blank_1, clear_2, doubt_3, small_4, large_5}
use Rattle.marks.specs.declared.Mark.{Mark}
use Rattle.marks.specs.declared.Mark.TheVariants.{Off, Blank, Clear, Doubt, Small, Large}

pub mark-numbered : (mark : Mark) → Numbered mark (mark_number mark)
unfolding mark_number
mark-numbered Off = off_0
mark-numbered Blank = blank_1
mark-numbered Clear = clear_2
mark-numbered Doubt = doubt_3
mark-numbered Small = small_4
mark-numbered Large = large_5
