use Rattle.passes.specs.Passes.{whole}
use Rattle.passes.specs.Seen.{seen_at}
use Rattle.passes.proofs.Passes.{along-more, ended-early, ended-whole, Ended}
use Rattle.passes.proofs.pass_at.Goals as goal
use Rattle.passes.proofs.pass_at.Goals.{Left-loop-place, else-loop-place-test, then-loop-place-test+then-not-sums}

pub loop-place-preserved : goal.loop-place-preserved
unfolding seen_at
loop-place-preserved c =
    let n = rw c.from.ensures at c.plus-sums.ensures in
    along-more c.requires.seen_soundly c.requires.aggregate_in_bounds c.loop-place.invariant c.loop-place-test.true n c.if-not-sums.false

ended : (c : Left-loop-place) → Ended c.args.roster.now c.args.seen.now c.args.aggregate c.loop-place-test.sums c.loop-place-test.looked
unfolding seen_at
ended c =
    elim c.loop-place-test.branch [
      | else-loop-place-test w ↦
          rw (w.sums-is, w.looked-is)
          (ended-whole c.requires.seen_soundly c.requires.aggregate_in_bounds c.loop-place.invariant w.loop-place-test.false)
      | then-loop-place-test+then-not-sums w ↦
          let n = rw w.from.ensures at w.plus-sums.ensures in
          rw (w.sums-is, w.looked-is)
          (ended-early c.requires.seen_soundly c.requires.aggregate_in_bounds c.loop-place.invariant w.loop-place-test.true n w.if-not-sums.true)
    ]

pub assess-requires : goal.assess-requires
assess-requires c = (ended c).small

pub returns : goal.returns
unfolding whole
returns c = rw c.assess.ensures (ended (goal.at.returns c).Left-loop-place).ends
