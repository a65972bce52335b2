use Rattle.std.proofs.Common.{refl, sym, subst, ◌∙◌}
use Rattle.records.proofs.Bounds.{bounded_at}
use Rattle.response.specs.Totals.{SmallTotals}
use Rattle.response.proofs.Sums.{all-zero, totals-none, totals-more, before_more, totals-small}
use Rattle.response.proofs.totals.sum_up.Goals as goal

pub loop-i-init : goal.loop-i-init
loop-i-init c =
    let zero = c.default-totals.ensures in
    record { so_far = all-zero _ _ _ _ zero.0 zero.1.0 zero.1.1.0 zero.1.1.1 ∙ totals-none _ _; before = refl }

pub plus-totals-requires-clause-small : goal.plus-totals-requires-clause-small
plus-totals-requires-clause-small c =
    subst SmallTotals (sym c.loop-i.invariant.so_far) (totals-small c.args.earlier _ c.requires _ c.loop-i-test.true)

pub plus-totals-requires-clause-bounded : goal.plus-totals-requires-clause-bounded
plus-totals-requires-clause-bounded c = rw c.interval_at-interval.ensures (bounded_at c.args.earlier _ c.requires _ c.loop-i-test.true)

pub loop-i-preserved : goal.loop-i-preserved
loop-i-preserved c =
    let read = c.interval_at-interval.ensures in
    let before = c.loop-i.invariant in
    record {
      so_far = c.plus-totals.ensures ∙ totals-more _ _ _ _ _ _ before.so_far before.before read;
      before = before_more _ _ _ _ read;
    }
