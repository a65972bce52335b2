-- Each way out of the rules on a point, over plain values: what was tested on the way there, and what the definitions then say.
-- Assumes nothing.
use mathlib.Core.Path.{◌≡◌, sym, ◌∙◌}
use mathlib.Core.Bool.{Bool, true, false}
use Prim.Native.Nat.{ℕ, ◌+◌, ◌^◌, ◌≤◌, ◌<◌, min}
use borrow.Author.Tests.{eq-eqb, ne_eqb, le-leb, lt-leb}
use lib.Signed.{mag}
use mir.Syntax.{w32}
use mir.Val.{to_z, of_z}
use Rattle.signed.proofs.Sizes.{held32}
use Rattle.marks.specs.declared.Assessment.{Assessment}
use Rattle.points.specs.declared.Span.{Span}
use Rattle.points.specs.declared.Reason.{Reason}
use Rattle.points.specs.declared.Reason.TheVariants.{BySmallRun, ByLargeRun}
use Rattle.points.specs.declared.Run.{Run}
use Rattle.points.specs.declared.Point.{Point}
use Rattle.points.specs.declared.Rule.{Rule}
use Rattle.points.specs.Points.{longer, stored_run, span_to, reason_of, declared_at, counted, reaches, status_of, graded, declares, settled, marked_by}

-- ---- runs

module _ (number count : ℕ) (run : Run) (c : count ≡ min 255 (run.count + 1)) where
  pub run-begins : run.count ≡ 0 → record { count = count; first = number } ≡ stored_run (longer number run)
  unfolding longer
  run-begins e = rw (c, eq-eqb run.count 0 e)

  pub run-goes-on : (run.count ≡ 0 → ⊥) → record { count = count; first = run.first } ≡ stored_run (longer number run)
  unfolding longer
  run-goes-on n = rw (c, ne_eqb run.count 0 n)

-- ---- reasons

module _ (rule : Rule) (number : ℕ) (small large : Run) (span : Span) where
  pub reason-large : rule.large.declaration ≤ large.count → span ≡ span_to number large → ByLargeRun span ≡ reason_of rule number small large
  unfolding reason_of
  reason-large l e = rw (le-leb rule.large.declaration large.count l, e)

  pub reason-small : large.count < rule.large.declaration → span ≡ span_to number small → BySmallRun span ≡ reason_of rule number small large
  unfolding reason_of
  reason-small l e = rw (lt-leb rule.large.declaration large.count l, e)

-- ---- status

module _ (rule : Rule) (small large : ℕ) (pending : Bool) (p : pending ≡ reaches rule.small.pending rule.large.pending small large) where
  pub pending-automatic : pending ≡ true → rule.automatic ≡ true → 3 ≡ status_of rule small large
  unfolding status_of
  pending-automatic t a = rw (sym p ∙ t, a)

  pub pending-manual : pending ≡ true → rule.automatic ≡ false → 2 ≡ status_of rule small large
  unfolding status_of
  pending-manual t a = rw (sym p ∙ t, a)

  module _ (f : pending ≡ false) (late : Bool) (l : late ≡ reaches rule.small.not_responding rule.large.not_responding small large) where
    pub not-responding : late ≡ true → 2 ≡ status_of rule small large
    unfolding status_of
    not-responding t = rw (sym p ∙ f, sym l ∙ t)

    pub off-target : late ≡ false → 1 ≤ small → 1 ≡ status_of rule small large
    unfolding status_of
    off-target t h = rw (sym p ∙ f, sym l ∙ t, le-leb 1 small h)

    pub on-target : late ≡ false → small < 1 → 0 ≡ status_of rule small large
    unfolding status_of
    on-target t h = rw (sym p ∙ f, sym l ∙ t, lt-leb 1 small h)

-- ---- declaration

module _ (rule : Rule) (number : ℕ) (a : Assessment) (p : Point) where
  module _ (r : Point) (declared : Bool) (d : declared ≡ declares rule a.mark p.small.count p.large.count) where
    -- the level, as a local holds it
    pub settled-declared : declared ≡ true → mag a.level < 2 ^ 31 → (reason : Reason) → reason ≡ reason_of rule number p.small p.large
        → r ≡ declared_at (to_z w32 (of_z w32 a.level)) reason → r ≡ settled rule number a p
    unfolding settled
    settled-declared t h reason e q = rw (sym d ∙ t, ← held32 a.level h, ← e) q

    pub settled-graded : declared ≡ false → r ≡ graded rule p → r ≡ settled rule number a p
    unfolding settled
    settled-graded t q = rw (sym d ∙ t) q

  pub marked-declared : p.status ≡ 4 → p ≡ marked_by rule number a p
  unfolding marked_by
  marked-declared e = rw (eq-eqb p.status 4 e)

  pub marked-counted : (r q : Point) → (p.status ≡ 4 → ⊥) → q ≡ counted a.mark number p → r ≡ settled rule number a q → r ≡ marked_by rule number a p
  unfolding marked_by
  marked-counted r q n c s = rw (ne_eqb p.status 4 n, ← c) s
