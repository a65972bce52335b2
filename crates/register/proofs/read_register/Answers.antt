use Rattle.register.proofs.Readings.{short-reads, counts-2, length-1, lengths-3, header-passed}
use Rattle.register.proofs.read_register.Goals as goal

pub returns-in_default : goal.returns-in_default
returns-in_default c = short-reads _ c.in_default.ensures.cases

pub returns-then-not-counts_known : goal.returns-then-not-counts_known
returns-then-not-counts_known c = counts-2 _ _ _ c.in-Some.ensures.cases _ c.counts_known.ensures c.if-not-counts_known.true

pub returns-then-not-is_whole : goal.returns-then-not-is_whole
returns-then-not-is_whole c =
    length-1 _ _ _ c.in-Some.ensures.cases _ c.counts_known.ensures c.if-not-counts_known.false _ c.is_whole.ensures c.if-not-is_whole.true

pub returns-then-not-lengths_rise : goal.returns-then-not-lengths_rise
returns-then-not-lengths_rise c =
    lengths-3 _ _ _ c.in-Some.ensures.cases _ c.counts_known.ensures c.if-not-counts_known.false _ c.is_whole.ensures c.if-not-is_whole.false
    _ c.lengths_rise.ensures c.if-not-lengths_rise.true

pub returns : goal.returns
returns c =
    header-passed _ _ _ c.in-Some.ensures.cases _ c.counts_known.ensures c.if-not-counts_known.false _ c.is_whole.ensures c.if-not-is_whole.false
    _ c.lengths_rise.ensures _ c.records_from.ensures c.if-not-lengths_rise.false
