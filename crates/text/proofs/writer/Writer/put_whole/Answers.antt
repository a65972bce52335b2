use Rattle.std.proofs.Common.{w64}
use mir.ValLaws.{to_z-of_z}
use Rattle.text.proofs.Numbers.{whole-signed}
use Rattle.text.proofs.Puts.{room-first}
use Rattle.text.proofs.Writers.{room-left, then}
use Rattle.text.proofs.writer.Writer.put_whole.Goals as goal

pub put_sign-requires : goal.put_sign-requires
put_sign-requires c =
    let z = c.args.z in
    rw (to_z-of_z w64 z c.ranges.z) (room-first _ _ (rw (whole-signed z) at c.requires))

pub put_number-requires : goal.put_number-requires
put_number-requires c =
    let z = c.args.z in
    let held = to_z-of_z w64 z c.ranges.z in
    rw (c.unsigned_abs.ensures.value, held) (room-left (rw held at c.put_sign.ensures) _ (rw (whole-signed z) at c.requires))

pub returns : goal.returns
returns c =
    let z = c.args.z in
    let held = to_z-of_z w64 z c.ranges.z in
    let digits = rw (c.unsigned_abs.ensures.value, held) at c.put_number.ensures in
    rw (whole-signed z) (then (rw held at c.put_sign.ensures) (rw (whole-signed z) at c.requires) digits)
