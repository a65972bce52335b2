-- What each mark makes of the two runs is what `Counts` says. Assumes nothing.
use mathlib.Core.Path.{refl}
use Prim.Native.Nat.{ℕ}
use Rattle.points.specs.declared.Run.{Run}
use Rattle.points.specs.declared.Point.{Point}
use Rattle.points.specs.Points.{longer, small_after, large_after, counted}
use Rattle.points.specs.Counts.{Counts, StoredCounts}

pub counts-said : (number : ℕ) (small large : Run) → Counts number small large
unfolding small_after large_after longer
counts-said number small large =
    record {
      small_mark = (refl, refl);
      large_mark = (refl, refl);
      off_mark = (refl, refl);
      clear_mark = (refl, refl);
      blank_mark = (refl, refl);
      doubt_mark = (refl, refl);
    }

pub stored-said : (number : ℕ) (p : Point) → StoredCounts number p
unfolding counted longer
stored-said number p =
    record {
      small_stored = (refl, refl);
      large_stored = (refl, refl);
      off_stored = (refl, refl);
      clear_stored = (refl, refl);
      blank_stored = (refl, refl);
      doubt_stored = (refl, refl);
    }
