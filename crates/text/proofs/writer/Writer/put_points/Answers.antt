use Rattle.std.proofs.Common.{◌/◌, ◌≤◌, inl, inr, length, arith, refl, sym, ◌∙◌}
use Rattle.std.proofs.lemmas.List.{length-append}
use Rattle.text.proofs.Lines.{first-left, none-left, lined-none, lined-room, lined-more, lined-all}
use Rattle.text.proofs.writer.Writer.put_points.Goals as goal

pub loop-record-init : goal.loop-record-init
loop-record-init c =
    let zipped = c.zip-record-items.ensures in
    let begun = c.into_iter-record-iterator.ensures.into_iter_gives in
    record {
      lines = lined-none _ _ _;
      records = rw (begun, zipped.first, c.iter.ensures.rest, c.as_chunks.ensures.front) refl;
      point = rw (begun, zipped.second) refl;
    }

pub put_point-requires : goal.put_point-requires
put_point-requires c =
    let i = c.loop-record.invariant in
    let turn = c.in-Some.ensures.steps in
    let first = first-left _ _ (length c.loop-record.yielded) (sym i.records ∙ turn.0) in
    rw (turn.1.0, i.point, first.1) (lined-room _ _ _ _ _ c.requires i.lines first.0)

pub loop-record-preserved : goal.loop-record-preserved
loop-record-preserved c =
    let i = c.loop-record.invariant in
    let turn = c.in-Some.ensures.steps in
    let first = first-left _ _ (length c.loop-record.yielded) (sym i.records ∙ turn.0) in
    rw length-append
    (record {
      lines = lined-more _ _ _ _ _ c.requires i.lines first.0 _ (rw (turn.1.0, i.point, first.1) at c.put_point.ensures);
      records = first.2;
      point = omega (arith, i.point, turn.1.0, turn.1.1);
    })

pub returns : goal.returns
returns c =
    let i = c.loop-record.invariant in
    let n = length c.loop-record.yielded in
    let all : length c.args.report.now / 16 ≤ n = elim c.in-None.ensures.steps [
      | inl none ↦ none-left _ c.args.report.now n (rw i.records at none.1.0)
      | inr none ↦ omega (arith, i.point, i.lines.within, none.1.0)
    ] in
    lined-all _ _ _ _ _ c.requires i.lines all
