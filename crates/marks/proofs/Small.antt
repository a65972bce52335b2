-- How large the numbers of lines, bases and errors are. Assumes nothing.
use mathlib.Core.Path.{◌≡◌, refl}
use mathlib.Core.Bool.{Bool, true, false, cond}
use mathlib.Core.List.{List}
use Prim.Native.Nat.{ℕ, ◌≤◌, max}
use native.Mathlib.Omega.{arith}
use borrow.Author.Tests.{leb-true, le-leb}
use lib.Dec.{lit≤}
use Rattle.std.proofs.Common.{Option, Some, None}
use Rattle.kinds.specs.declared.Kind.{Kind}
use Rattle.kinds.specs.declared.Kind.TheVariants.{Generating, Load, Bidirectional, SemiScheduled}
use lib.IntN.{ℤ, pos, nat_abs, ◌+ℤ◌, ◌-ℤ◌}
use lib.Signed.{lt_z}
use Rattle.signed.proofs.Sizes.{size-plus, size-minus, size-neg}
use Rattle.telemetry.specs.Lines.{power_of, readable, fields_of, line_of}
use Rattle.telemetry.specs.declared.Fields.{Fields}
use Rattle.telemetry.specs.declared.Reading.{Reading}
use Rattle.telemetry.specs.declared.Reading.TheVariants.{Good, Substituted, Missing}
use Rattle.trace.proofs.Tests.{and_l, and_r}
use Rattle.floats.proofs.Floats.{kilowatts-size}
use Rattle.telemetry.proofs.Clauses.{target_small, availability-small, raise-small, lower-small}
use Rattle.triggers.proofs.Thresholds.{small-bounded as trigger-bounded}
use Rattle.triggers.specs.Triggers.{direction_of, rate_of, capability_of, unit_capability}
use Rattle.marks.specs.KeptLines.{kept_line, kept_from, kept_bounded}
use Rattle.marks.specs.Errors.{over_of, under_of, error_of}
use Rattle.marks.specs.Assessments.{kilowatts_in, up_of, down_of, unit_basis}
use Rattle.triggers.specs.Bounds.{SmallCapability}
use Rattle.marks.specs.Bounds.{SmallFields, SmallLine, SmallKeptLine, SmallKept, SmallBasis}
use Rattle.triggers.specs.declared.Direction.{Direction}
use Rattle.triggers.specs.declared.Direction.TheVariants.{Up, Down, Level}
use Rattle.triggers.specs.declared.Capability.{Capability}
use Rattle.marks.specs.declared.Kept.{Kept}
use Rattle.marks.specs.declared.Basis.{Basis}

-- ---- lines and kept lines

pub line_small : (kind : Option Kind) (chained : Bool) (line : List ℕ) → SmallLine (line_of kind chained line)
unfolding line_of fields_of
line_small kind chained line = go (readable kind chained line) refl
  where
    go : (b : Bool) → readable kind chained line ≡ b → SmallLine (cond b (Some (fields_of line)) None)
    go true e = search (target_small, availability-small, raise-small, lower-small)
    go false e = tt

pub kept_small : (l : Option Fields) → SmallLine l → SmallKept (kept_from l)
unfolding kept_from kept_line
kept_small (Some f) s = omega arith
kept_small None s = tt

pub bounded-small : (k : Option Kept) → kept_bounded k ≡ true → SmallKept k
unfolding kept_bounded
bounded-small (Some k) e = search (and_l, and_r, leb-true)
bounded-small None e = tt

pub small-bounded : (k : Option Kept) → SmallKept k → kept_bounded k ≡ true
unfolding kept_bounded
small-bounded (Some k) s = rw (le-leb _ _ s.target, le-leb _ _ s.raise, le-leb _ _ s.lower)
small-bounded None s = refl

-- ---- a unit

pub power_small : (r : Reading) → nat_abs (kilowatts_in r) ≤ 2000000
unfolding kilowatts_in
power_small (Good x) = kilowatts-size x
power_small (Substituted x) = kilowatts-size x
power_small Missing = lit≤ tt

pub capability-small : {f : Fields} → SmallFields f → SmallCapability 2000000 (unit_capability f)
unfolding capability_of
capability-small {f} s = omega (arith, kilowatts-size f.readings.ramp_up, kilowatts-size f.readings.ramp_down)

pub rate-small : {n : ℕ} {c : Capability} (d : Direction) → SmallCapability n c → rate_of d c ≤ n
unfolding rate_of
rate-small Up s = s.up
rate-small Down s = s.down
rate-small Level s = s.least

either-size : (b : Bool) (x y : ℤ) → nat_abs (cond b x y) ≤ max (nat_abs x) (nat_abs y)
either-size true x y = omega arith
either-size false x y = omega arith

record SmallSides (kind : Option Kind) (k : Kept) : Type 0 where
  up : nat_abs (up_of kind k) ≤ 2000000
  down : nat_abs (down_of kind k) ≤ 2000000

sides-small : (kind : Option Kind) {k : Kept} → SmallKeptLine k → SmallSides kind k
sides-small (Some Generating) s = record { up = s.raise; down = s.lower }
sides-small (Some Load) s = record { up = s.lower; down = s.raise }
sides-small (Some Bidirectional) s = record { up = s.raise; down = s.lower }
sides-small (Some SemiScheduled) s = record { up = s.raise; down = s.lower }
sides-small None s = record { up = s.raise; down = s.lower }

pub unit-small : (kind : Option Kind) (f : Fields) (k : Kept) → SmallFields f → SmallKeptLine k → SmallBasis (unit_basis kind f k)
unfolding unit_basis
unit-small kind f k s t = omega (
  arith,
  power_small (power_of f),
  sides-small kind t,
  rate-small (direction_of f.target (kilowatts_in (power_of f))) (capability-small s),
)

-- ---- errors

pub error-size : (b : Basis) → SmallBasis b → nat_abs (error_of b) ≤ 390000000
unfolding error_of
error-size b s =
    let highest = b.target +ℤ b.up in
    let lowest = b.target -ℤ b.down in
    omega (
      arith,
      either-size (lt_z (pos 0) (over_of b)) (over_of b) (cond (lt_z (under_of b) (pos 0)) (under_of b) (pos 0)),
      either-size (lt_z (under_of b) (pos 0)) (under_of b) (pos 0),
      size-minus b.power highest,
      size-plus b.target b.up,
      size-neg (lowest -ℤ b.power),
      size-minus lowest b.power,
      size-minus b.target b.down,
    )

-- what the casts of an assessment go by
pub ruleset sizes = (error-size, trigger-bounded)
