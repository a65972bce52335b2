use Rattle.std.proofs.Common.{rules, ◌≡◌, to_z, of_z, w64, arith}
use mir.ValLaws.{to_z-of_z}
use Rattle.text.proofs.Rooms.{put-within}
use Rattle.ledger_script.specs.Texts.{accepted_text}
use Rattle.ledger_script.proofs.Lines.{declared_number}
use Rattle.ledger_script.proofs.texts.put_accepted.Goals as goal

-- a signed number stands in the code as its bits; 128 bytes are room for any line
pub returns : goal.returns
unfolding accepted_text
returns c =
    let response = c.args.day.response in
    let same : to_z w64 (of_z w64 response) ≡ response = to_z-of_z w64 response (search rules) in
    rw (← c.flag_word.ensures.word, ← declared_number c.args.declared)
    (put-within (omega (arith, c.flag_word.ensures.short)) (rw (same, c.into.ensures) at c.put_line.ensures))
