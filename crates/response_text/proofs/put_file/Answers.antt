use Rattle.std.proofs.Common.{arith, sym, ◌∙◌}
use Rattle.text.proofs.Rooms.{put-within}
use Rattle.response_text.specs.Texts.{answer_text, file_text}
use Rattle.response_text.proofs.put_file.Goals as goal

pub returns-in-Ok : goal.returns-in-Ok
unfolding file_text answer_text
returns-in-Ok c = rw (sym c.assess_file.ensures.result ∙ c.in-Ok.is) c.put_day.ensures

pub returns-in-Err : goal.returns-in-Err
unfolding file_text answer_text
returns-in-Err c =
    rw (sym c.assess_file.ensures.result ∙ c.in-Err.is)
    (put-within (omega arith) (rw c.into.ensures at c.put_line.ensures))
