-- Whether the unit is declared, as the code has it put. Assumes nothing.
use mathlib.Core.Path.{◌≡◌, refl}
use mathlib.Core.Bool.{Bool, true, false, cond}
use Rattle.std.specs.Int.{from_bool}

pub declared_number : (declared : Bool) → from_bool declared ≡ cond declared 1 0
declared_number true = refl
declared_number false = refl
