use Rattle.std.proofs.Common.{arith}
use lib.Dec.{lit<}
use Rattle.signed.proofs.Sizes.{held-size}
use Rattle.response.proofs.Sums.{response-small}
use Rattle.response.proofs.assessed.Goals as goal

-- The sum fits an i64, so its bits read as a number again are the sum.
pub day_flag-requires : goal.day_flag-requires
day_flag-requires c =
    let small = response-small c.args.earlier _ c.requires _ c.sum_up-totals.ensures in
    rw (held-size _ small (lit< tt)) (omega (arith, small))
