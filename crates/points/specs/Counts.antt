-- What each mark makes of the two runs' counts, said a second time, by number (01, "Marks and runs" and "Whole lists of calls").
use Rattle.std.specs.Prelude.{◌≡◌, ℕ, ◌+◌, min}
use Rattle.marks.specs.declared.Mark.{Mark}
use Rattle.marks.specs.declared.Mark.TheVariants.{Off, Blank, Clear, Doubt, Small, Large}
use Rattle.points.specs.declared.Run.{Run}
use Rattle.points.specs.declared.Point.{Point}
use Rattle.points.specs.Points.{small_after, large_after, counted}

-- the counts of the small run and of the large run after a mark in the interval of this number
abbrev pub CountsAfter : Mark → ℕ → Run → Run → ℕ → ℕ → Type 0
CountsAfter mark number small large small_count large_count =
    ((small_after mark number small).count ≡ small_count) × ((large_after mark number large).count ≡ large_count)

pub record Counts (number : ℕ) (small large : Run) : Type 0 where
  -- "SMALL adds 1 to the small run and sets the large run to 0"
  pub small_mark : CountsAfter Small number small large (small.count + 1) 0
  -- "LARGE adds 1 to both"
  pub large_mark : CountsAfter Large number small large (small.count + 1) (large.count + 1)
  -- "OFF and CLEAR set both to 0"
  pub off_mark : CountsAfter Off number small large 0 0
  pub clear_mark : CountsAfter Clear number small large 0 0
  -- "BLANK and DOUBT change neither"
  pub blank_mark : CountsAfter Blank number small large small.count large.count
  pub doubt_mark : CountsAfter Doubt number small large small.count large.count

-- the counts that a point's record stores after a mark in the interval of this number
abbrev pub StoredAfter : Mark → ℕ → Point → ℕ → ℕ → Type 0
StoredAfter mark number p small_count large_count =
    ((counted mark number p).small.count ≡ small_count) × ((counted mark number p).large.count ≡ large_count)

-- "Stored runs stop at 255"
pub record StoredCounts (number : ℕ) (p : Point) : Type 0 where
  pub small_stored : StoredAfter Small number p (min 255 (p.small.count + 1)) 0
  pub large_stored : StoredAfter Large number p (min 255 (p.small.count + 1)) (min 255 (p.large.count + 1))
  pub off_stored : StoredAfter Off number p 0 0
  pub clear_stored : StoredAfter Clear number p 0 0
  pub blank_stored : StoredAfter Blank number p p.small.count p.large.count
  pub doubt_stored : StoredAfter Doubt number p p.small.count p.large.count
