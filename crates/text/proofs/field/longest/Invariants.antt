-- After i turns the first i of the other fields are counted.
use Rattle.std.proofs.Common.{take, ◌≡◌, ◌+◌, ◌≤◌, length}
use Rattle.std.specs.Prelude.{min}
use Rattle.text.specs.Lines.{behind}
use Rattle.text.specs.Puts.{most}
use Rattle.text.specs.Fields.{texts, longest_behind}
use Rattle.text.proofs.field.longest.Given as goal

abbrev pub invariant-loop-field : goal.invariant-loop-field
invariant-loop-field l = record {
  longest : l.sum ≡ min most (l.initial.sum + longest_behind (take l.field-index l.others));
  within : length (behind (texts (take l.field-index l.others))) ≤ longest_behind (take l.field-index l.others);
}
