-- The level after an accepted interval. Assumes nothing.
use Prim.Native.Nat.{ℕ}
use lib.Dec.{eqb}
use lib.IntN.{ℤ, pos}
use Rattle.trace.proofs.Tests.{chosen}
use Rattle.marks.specs.declared.Assessment.{Assessment}
use Rattle.points.specs.declared.Point.{Point}
use Rattle.points.specs.declared.Rule.{Rule}
use Rattle.points.specs.Points.{reason_of, declared_at, counted, graded, declares, settled, marked_by}

-- it is the one that was stored, the one that comes with the mark, or 0
pub level-after : (P : ℤ → Type 0) (rule : Rule) (number : ℕ) (a : Assessment) (p : Point)
    → P p.level → P a.level → P (pos 0) → P (marked_by rule number a p).level
unfolding marked_by settled graded
level-after P rule number a p stored given none =
    let q = counted a.mark number p in
    let declares = declares rule a.mark q.small.count q.large.count in
    let declared = declared_at a.level (reason_of rule number q.small q.large) in
    chosen Held (eqb p.status 4) p (settled rule number a q) stored (chosen Held declares declared (graded rule q) given none)
  where
    Held : Point → Type 0
    Held q = P q.level
