-- Rate of change and triggers (01, "Triggers and errors").
use Rattle.std.specs.Prelude.{Bool, cond, ℕ, ◌+◌, ◌*◌, min, max, ℤ, nat_abs}
use Rattle.std.specs.Int.Signed.{lt_z}
use Rattle.floats.specs.Kilowatts.{kilowatts_of}
use Rattle.telemetry.specs.declared.Readings.{Readings}
use Rattle.telemetry.specs.declared.Fields.{Fields}
use Rattle.triggers.specs.declared.Direction.{Direction}
use Rattle.triggers.specs.declared.Direction.TheVariants.{Up, Down, Level}
use Rattle.triggers.specs.declared.Capability.{Capability}

-- ---- rate of change

-- "with this line's MWB above MW ..; below ..; equal .."
unfoldable pub direction_of : ℤ → ℤ → Direction
direction_of target power = cond (lt_z power target) Up (cond (lt_z target power) Down Level)

-- "the lesser of SCADA and bid ramp up; .. of the ramp downs; .. the least of all four". A readable line's rates are not negative
unfoldable pub capability_of : Readings → ℕ → ℕ → ℕ → Capability
capability_of readings availability bid_up bid_down =
    let rises = min (nat_abs (kilowatts_of readings.ramp_up)) bid_up in
    let falls = min (nat_abs (kilowatts_of readings.ramp_down)) bid_down in
    record { availability = availability; up = rises; down = falls; least = min rises falls }

-- of a unit, by its line
abbrev pub unit_capability : Fields → Capability
unit_capability f = capability_of f.readings f.availability f.bid_up f.bid_down

unfoldable pub rate_of : Direction → Capability → ℕ
rate_of Up c = c.up
rate_of Down c = c.down
rate_of Level c = c.least

-- "loads take the opposite direction, and equality takes the least of four for every member"
unfoldable pub opposite : Direction → Direction
opposite Up = Down
opposite Down = Up
opposite Level = Level

-- a sum over units, with one more where it counts
unfoldable pub add_capability : Bool → Capability → Capability → Capability
add_capability counts sum unit =
    cond counts
    (record {
      availability = sum.availability + unit.availability;
      up = sum.up + unit.up;
      down = sum.down + unit.down;
      least = sum.least + unit.least;
    })
    sum

-- ---- triggers, in hundredths of a kW

-- "max(600,000, min(3 × MWO, 200 × ROC))" and "max(600,000, min(5 × MWO, 400 × ROC))"
unfoldable pub trigger_of : ℕ → ℕ → ℕ → ℕ → ℕ
trigger_of share ramping availability rate = max 600000 (min (share * availability) (ramping * rate))

abbrev pub small_trigger : ℕ → ℕ → ℕ
small_trigger availability rate = trigger_of 3 200 availability rate

abbrev pub large_trigger : ℕ → ℕ → ℕ
large_trigger availability rate = trigger_of 5 400 availability rate
