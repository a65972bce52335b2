use Rattle.std.proofs.Common.{◌≡◌}
use Rattle.response.specs.Days.{target_before}
use Rattle.response.specs.Totals.{totals_of}
use Rattle.response.proofs.totals.sum_up.Given as goal

abbrev pub invariant-loop-i : goal.invariant-loop-i
invariant-loop-i l =
    record {
      so_far : l.totals ≡ totals_of l.earlier l.records l.i;
      before : l.before ≡ target_before l.earlier l.records l.i;
    }
