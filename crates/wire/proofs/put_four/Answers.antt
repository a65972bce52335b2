use Rattle.std.proofs.Common.{rules, arith, refl, ◌≡◌, length, ◌+◌, ◌-◌}
use lib.Seq.{drop-drop}
use Rattle.wire.specs.Fields.{put_at}
use Rattle.wire.proofs.put_four.Goals as goal

pub returns : goal.returns
unfolding put_at
returns c =
    let four : length c.args.bytes ≡ 4 = search rules in
    let past : c.args.at + 4 - c.args.at ≡ 4 = omega arith in
    rw (c.copy_from_slice.ensures.after, four, past, drop-drop 4 c.args.at c.args.s.now) refl
