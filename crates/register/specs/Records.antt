-- A register as the code holds it.
use Rattle.std.specs.Prelude.{List, ℕ, ◌++◌}
use Rattle.register.specs.declared.records.Register.{Register}

abbrev pub bytes_of : Register → List ℕ
bytes_of register = register.header.now ++ register.records.now
