use Rattle.std.proofs.Common.{arith}
use Rattle.response.proofs.Refusals.{file-short, file-day}
use Rattle.response.proofs.assess_file.Goals as goal

pub returns-in_default : goal.returns-in_default
returns-in_default c = file-short _ c.in_default.ensures.cases

pub returns : goal.returns
returns c =
    let parts = c.in-Some.ensures.cases in
    file-day _ (omega (arith, parts.2)) _ _ parts.0 parts.1 _ c.from_le_bytes.ensures _ c.assess_day.ensures
