-- How large the numbers of a line, of a kept line and of a basis are. A readable line's are within 01's bounds, and an aggregate has at most 64
-- of them; the bounds have room for 65.
use Rattle.std.specs.Prelude.{Option, Some, None, ◌≤◌, nat_abs}
use Rattle.telemetry.specs.declared.Fields.{Fields}
use Rattle.marks.specs.declared.Kept.{Kept}
use Rattle.marks.specs.declared.Sight.{Sight}
use Rattle.marks.specs.declared.Basis.{Basis}

pub record SmallFields (f : Fields) : Type 0 where
  pub target : nat_abs f.target ≤ 2000000
  pub availability : f.availability ≤ 2000000
  pub raise : f.raise ≤ 2000000
  pub lower : f.lower ≤ 2000000

abbrev pub SmallLine : Option Fields → Type 0
SmallLine (Some f) = SmallFields f
SmallLine None = Unit {0}

pub record SmallKeptLine (k : Kept) : Type 0 where
  pub target : nat_abs k.target ≤ 2000000
  pub raise : k.raise ≤ 2000000
  pub lower : k.lower ≤ 2000000

abbrev pub SmallKept : Option Kept → Type 0
SmallKept (Some k) = SmallKeptLine k
SmallKept None = Unit {0}

pub record SmallSight (v : Sight) : Type 0 where
  pub line : SmallLine v.line
  pub kept : SmallKept v.kept

pub record SmallBasis (b : Basis) : Type 0 where
  pub power : nat_abs b.power ≤ 130000000
  pub target : nat_abs b.target ≤ 130000000
  pub up : nat_abs b.up ≤ 130000000
  pub down : nat_abs b.down ≤ 130000000
  pub availability : b.availability ≤ 130000000
  pub rate : b.rate ≤ 130000000
