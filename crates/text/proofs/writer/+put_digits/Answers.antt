use Rattle.std.proofs.Common.{arith}
use Rattle.text.proofs.Puts.{room-one, put_one, room-higher, room-last, then-last}
use Rattle.text.proofs.writer.+put_digits.Goals as goal

pub put_digit-requires : goal.put_digit-requires
put_digit-requires t c = room-one c.requires c.if-n-lt10.true

pub returns-then-n-lt10 : goal.returns-then-n-lt10
returns-then-n-lt10 t c = put_one c.requires c.if-n-lt10.true c.put_digit.ensures

pub put_digits-last-requires : goal.put_digits-last-requires
put_digits-last-requires t c = (omega arith, room-higher c.requires c.if-n-lt10.false c.ranges.n.fits)

pub put_digit-requires-2 : goal.put_digit-requires-2
put_digit-requires-2 t c = room-last c.requires c.if-n-lt10.false c.ranges.n.fits c.put_digits-last.ensures

pub returns : goal.returns
returns t c = then-last c.requires c.if-n-lt10.false c.ranges.n.fits c.put_digits-last.ensures c.put_digit-2.ensures
