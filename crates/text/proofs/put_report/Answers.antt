use Rattle.std.proofs.Common.{arith, sym}
use Rattle.text.proofs.Rooms.{room_by, lines-longest}
use Rattle.text.proofs.put_report.Goals as goal

pub put_points-requires : goal.put_points-requires
put_points-requires c =
    let a = c.args in
    let short = lines-longest a.interval a.report.now c.ranges.interval.fits (omega arith) (λ i. (c.type_inv.report i).fits) in
    room_by (sym c.if-has_room_for_points.ensures) short
