-- The examples at their bounds hold, each by computing it. Assumes nothing.
use mathlib.Core.Path.{refl}
use Rattle.register.specs.Registers.{register_number}
use Rattle.monitor.specs.Bounds.{Bounds}
use Rattle.monitor.proofs.Examples.{loaded_of, answered}

pub bounds : Bounds
unfolding loaded_of answered register_number
bounds =
    record {
      lines = refl;
      targets = refl;
      modes = refl;
      masks = refl;
      levels = refl;
      registers = refl;
      largest = refl;
    }
