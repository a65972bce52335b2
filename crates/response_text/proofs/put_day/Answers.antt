use Rattle.std.proofs.Common.{rules, ◌≡◌, to_z, of_z, w64, arith}
use mir.ValLaws.{to_z-of_z}
use Rattle.text.proofs.Rooms.{put-within}
use Rattle.response_text.specs.Texts.{day_text}
use Rattle.response_text.proofs.put_day.Goals as goal

-- a signed number stands in the code as its bits; 64 bytes are room for any line
pub returns : goal.returns
unfolding day_text
returns c =
    let response = c.args.day.response in
    let same : to_z w64 (of_z w64 response) ≡ response = to_z-of_z w64 response (search rules) in
    rw (← c.flag_word.ensures.word) (put-within (omega (arith, c.flag_word.ensures.short)) (rw same at c.put_line.ensures))
