use Rattle.std.proofs.Common.{arith, w32}
use mir.ValLaws.{to_z-of_z}
use Rattle.text.proofs.PointLines.{error-fits, trigger-fits, level-fits, end-fits, amounts-put}
use Rattle.text.proofs.writer.Writer.put_amounts.Goals as goal

pub put_next-requires : goal.put_next-requires
put_next-requires c =
    let held = to_z-of_z w32 c.whole_at.result (record { sfits = omega arith }) in
    rw (held, c.whole_at.ensures) (error-fits c.args.r.now c.args.self.now c.requires)

pub put_next-requires-2 : goal.put_next-requires-2
put_next-requires-2 c =
    let held = to_z-of_z w32 c.whole_at.result (record { sfits = omega arith }) in
    let error = rw (held, c.whole_at.ensures) at c.put_next.ensures in
    rw c.word_at.ensures (trigger-fits c.args.r.now c.args.self.now c.requires error)

pub put_next-requires-3 : goal.put_next-requires-3
put_next-requires-3 c =
    let held = to_z-of_z w32 c.whole_at.result (record { sfits = omega arith }) in
    let held-level = to_z-of_z w32 c.whole_at-2.result (record { sfits = omega arith }) in
    let error = rw (held, c.whole_at.ensures) at c.put_next.ensures in
    let trigger = rw c.word_at.ensures at c.put_next-2.ensures in
    rw (held-level, c.whole_at-2.ensures) (level-fits c.args.r.now c.args.self.now c.requires error trigger)

pub put_byte-requires : goal.put_byte-requires
put_byte-requires c =
    let held = to_z-of_z w32 c.whole_at.result (record { sfits = omega arith }) in
    let held-level = to_z-of_z w32 c.whole_at-2.result (record { sfits = omega arith }) in
    let error = rw (held, c.whole_at.ensures) at c.put_next.ensures in
    let trigger = rw c.word_at.ensures at c.put_next-2.ensures in
    let level = rw (held-level, c.whole_at-2.ensures) at c.put_next-3.ensures in
    end-fits c.args.r.now c.args.self.now c.requires error trigger level

pub returns : goal.returns
returns c =
    let held = to_z-of_z w32 c.whole_at.result (record { sfits = omega arith }) in
    let held-level = to_z-of_z w32 c.whole_at-2.result (record { sfits = omega arith }) in
    let error = rw (held, c.whole_at.ensures) at c.put_next.ensures in
    let trigger = rw c.word_at.ensures at c.put_next-2.ensures in
    let level = rw (held-level, c.whole_at-2.ensures) at c.put_next-3.ensures in
    amounts-put c.args.r.now c.args.self.now c.requires error trigger level c.put_byte.ensures
