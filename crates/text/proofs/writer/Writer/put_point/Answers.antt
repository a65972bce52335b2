use Rattle.text.proofs.PointLines.{interval-fits, point-fits, status-fits, mark-fits, small-fits, large-fits, amounts-fit, line-put}
use Rattle.text.proofs.writer.Writer.put_point.Goals as goal

pub put_field-requires : goal.put_field-requires
put_field-requires c = let a = c.args in interval-fits a.interval a.point a.r.now a.self.now c.requires

pub put_next-requires : goal.put_next-requires
put_next-requires c = let a = c.args in point-fits a.interval a.point a.r.now a.self.now c.requires c.put_field.ensures

pub put_next-requires-2 : goal.put_next-requires-2
put_next-requires-2 c = let a = c.args in status-fits a.interval a.point a.r.now a.self.now c.requires c.put_field.ensures c.put_next.ensures

pub put_next-requires-3 : goal.put_next-requires-3
put_next-requires-3 c =
    let a = c.args in
    mark-fits a.interval a.point a.r.now a.self.now c.requires c.put_field.ensures c.put_next.ensures c.put_next-2.ensures

pub put_next-requires-4 : goal.put_next-requires-4
put_next-requires-4 c =
    let a = c.args in
    small-fits a.interval a.point a.r.now a.self.now c.requires c.put_field.ensures c.put_next.ensures c.put_next-2.ensures c.put_next-3.ensures

pub put_next-requires-5 : goal.put_next-requires-5
put_next-requires-5 c =
    let a = c.args in
    large-fits a.interval a.point a.r.now a.self.now c.requires c.put_field.ensures c.put_next.ensures c.put_next-2.ensures c.put_next-3.ensures
    c.put_next-4.ensures

pub put_amounts-requires : goal.put_amounts-requires
put_amounts-requires c =
    let a = c.args in
    amounts-fit a.interval a.point a.r.now a.self.now c.requires c.put_field.ensures c.put_next.ensures c.put_next-2.ensures c.put_next-3.ensures
    c.put_next-4.ensures c.put_next-5.ensures

pub returns : goal.returns
returns c =
    let a = c.args in
    line-put a.interval a.point a.r.now a.self.now c.requires c.put_field.ensures c.put_next.ensures c.put_next-2.ensures c.put_next-3.ensures
    c.put_next-4.ensures c.put_next-5.ensures c.put_amounts.ensures
