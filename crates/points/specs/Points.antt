-- A point's record after a mark (01, "Marks and runs"), and why it is declared (02, 2026-06). Runs are arguments of their own, so that
-- the same rules read stored runs, which stop at 255, and the runs of a history, which do not.
use Rattle.std.specs.Prelude.{Bool, true, false, cond, ◌&&◌, ◌||◌, ℕ, ◌+◌, min, leb, eqb, ℤ, pos}
use Rattle.marks.specs.declared.Assessment.{Assessment}
use Rattle.marks.specs.declared.Mark.{Mark}
use Rattle.marks.specs.declared.Mark.TheVariants.{Off, Blank, Clear, Doubt, Small, Large}
use Rattle.points.specs.declared.Span.{Span}
use Rattle.points.specs.declared.Reason.{Reason}
use Rattle.points.specs.declared.Reason.TheVariants.{ByOperator, BySmallRun, ByLargeRun}
use Rattle.points.specs.declared.Run.{Run}
use Rattle.points.specs.declared.Point.{Point}
use Rattle.points.specs.declared.Rule.{Rule}

-- ---- runs: the marks that they count, and the interval number of the first of them

abbrev pub no_run : Run
no_run = record { count = 0; first = 0 }

-- a run with the mark of the interval of this number, its first where it had counted none
unfoldable pub longer : ℕ → Run → Run
longer number run = record { count = run.count + 1; first = cond (eqb run.count 0) number run.first }

-- "Small run: SMALL and LARGE marks since the latest OFF, CLEAR ..": the small run after a mark in the interval of this number
unfoldable pub small_after : Mark → ℕ → Run → Run
small_after Off number run = no_run
small_after Blank number run = run
small_after Clear number run = no_run
small_after Doubt number run = run
small_after Small number run = longer number run
small_after Large number run = longer number run

-- "Large run: LARGE marks since the latest OFF, CLEAR, SMALL .."
unfoldable pub large_after : Mark → ℕ → Run → Run
large_after Off number run = no_run
large_after Blank number run = run
large_after Clear number run = no_run
large_after Doubt number run = run
large_after Small number run = no_run
large_after Large number run = longer number run

-- "Stored runs stop at 255"; the number of the first mark stays
abbrev pub stored_run : Run → Run
stored_run run = record { count = min 255 run.count; first = run.first }

-- ---- why a point is declared

-- "the interval numbers of the first mark counted in that run and of the declaring mark", which is that of the interval of this number
abbrev pub span_to : ℕ → Run → Span
span_to number run = record { first = run.first; last = number }

-- "both 0 for the operator"
unfoldable pub span_of : Reason → Span
span_of ByOperator = record { first = 0; last = 0 }
span_of (BySmallRun span) = span
span_of (ByLargeRun span) = span

-- of a mark that declares in the interval of this number, the runs being those after it: "If after the declaring mark both runs are at
-- their lengths or beyond, it says large"
unfoldable pub reason_of : Rule → ℕ → Run → Run → Reason
reason_of rule number small large =
    cond (leb rule.large.declaration large.count) (ByLargeRun (span_to number large)) (BySmallRun (span_to number small))

-- ---- a point's record

-- no run has declared it
abbrev pub normal : Point
normal = record { status = 0; small = no_run; large = no_run; level = pos 0; reason = ByOperator }

-- "status 4, declared at that level, runs 0"
abbrev pub declared_at : ℤ → Reason → Point
declared_at level reason = record { status = 4; small = no_run; large = no_run; level = level; reason = reason }

abbrev pub with_runs : Point → Run → Run → Point
with_runs p small large = record { status = p.status; small = small; large = large; level = p.level; reason = p.reason }

abbrev pub cleared : Point → Point
cleared p = with_runs p no_run no_run

unfoldable pub counted : Mark → ℕ → Point → Point
counted Off number p = cleared p
counted Blank number p = p
counted Clear number p = cleared p
counted Doubt number p = p
counted Small number p = with_runs p (stored_run (longer number p.small)) no_run
counted Large number p = with_runs p (stored_run (longer number p.small)) (stored_run (longer number p.large))

-- ---- status

-- a run at its length or beyond
abbrev pub reaches : ℕ → ℕ → ℕ → ℕ → Bool
reaches small large small_run large_run = leb small small_run || leb large large_run

-- "3 NC-Pending when ..; else 2 Not-Responding when ..; else 1 Off-Target at small run 1 or more; else 0 Normal. Manual mode shows
-- 2 instead of 3"
unfoldable pub status_of : Rule → ℕ → ℕ → ℕ
status_of rule small large =
    cond (reaches rule.small.pending rule.large.pending small large)
    (cond rule.automatic 3 2)
    (cond (reaches rule.small.not_responding rule.large.not_responding small large) 2 (cond (leb 1 small) 1 0))

unfoldable pub graded : Rule → Point → Point
graded rule p =
    record {
      status = status_of rule p.small.count p.large.count;
      small = p.small;
      large = p.large;
      level = pos 0;
      reason = ByOperator;
    }

-- ---- declaration

-- a SMALL or LARGE mark
unfoldable pub is_counted : Mark → Bool
is_counted Off = false
is_counted Blank = false
is_counted Clear = false
is_counted Doubt = false
is_counted Small = true
is_counted Large = true

-- "A SMALL or LARGE mark in automatic mode that brings the small run to Ds or more, or the large run to Dl or more": the runs are
-- those after the mark
unfoldable pub declares : Rule → Mark → ℕ → ℕ → Bool
declares rule mark small large =
    is_counted mark && (rule.automatic && reaches rule.small.declaration rule.large.declaration small large)

-- "declares the point; its constraint level is" the one that comes with the mark, since that goes by kind
unfoldable pub settled : Rule → ℕ → Assessment → Point → Point
settled rule number a p =
    cond (declares rule a.mark p.small.count p.large.count)
    (declared_at a.level (reason_of rule number p.small p.large))
    (graded rule p)

-- "A declared point is not declared again: its level stands until it is reinstated", and so does its reason
unfoldable pub marked_by : Rule → ℕ → Assessment → Point → Point
marked_by rule number a p = cond (eqb p.status 4) p (settled rule number a (counted a.mark number p))
