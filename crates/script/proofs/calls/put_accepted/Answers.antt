use Rattle.std.proofs.Common.{[], ◌∷◌, arith}
use Rattle.text.specs.Numbers.{ascii}
use Rattle.text.specs.Lines.{line}
use Rattle.text.specs.Puts.{Put}
use Rattle.text.proofs.Puts.{then}
use Rattle.text.proofs.Rooms.{put-within, lines-longest}
use Rattle.script.proofs.calls.put_accepted.Goals as goal

pub returns : goal.returns
returns c =
    let a = c.args in
    let first : Put a.out.now 0 (line (ascii "interval accepted" ∷ [])) c.put_line-lines.result c.put_line-lines.new.out =
    put-within (omega arith) c.put_line-lines.ensures in
    let short = lines-longest a.interval a.report.now c.ranges.interval.fits (omega arith) (λ i. (c.type_inv.report i).fits) in
    then first (record { fits = omega arith }) (put-within (omega arith) c.put_report.ensures)
