-- The level of a constraint (02, 2026-02, "Never a level that cannot be dispatched"). Whether a point is the point of a unit of kind 1, 2 or 4
-- is an argument: an aggregate is none, whatever its members.
use Rattle.std.specs.Prelude.{Bool, not, ◌&&◌, ℤ, pos}
use Rattle.std.specs.Int.Signed.{lt_z}
use Rattle.signed.specs.Floors.{floored}

-- "its constraint level is its MW then (signed sum for an aggregate)"; "For kinds 1, 2 and 4 the level at an automatic declaration becomes the
-- greater of MW and 0", and "Bidirectional units and aggregates keep the signed value"
abbrev pub level_of : Bool → ℤ → ℤ
level_of unidirectional power = floored unidirectional power

-- "A generating unit's or load's target cannot be negative, so the market system threw the constraint away"
abbrev pub is_dispatchable : Bool → ℤ → Bool
is_dispatchable unidirectional level = not (unidirectional && lt_z level (pos 0))
