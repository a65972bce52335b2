-- Errors (01, "Triggers and errors": "Error = MW − (MWB + up) if positive; otherwise −((MWB − down) − MW) if that is negative;
-- otherwise 0").
use Rattle.std.specs.Prelude.{Bool, cond, ℕ, ◌*◌, ltb, ℤ, pos, neg_ℤ, nat_abs, ◌+ℤ◌, ◌-ℤ◌}
use Rattle.std.specs.Int.Signed.{lt_z}
use Rattle.signed.specs.Floors.{floored}
use Rattle.marks.specs.declared.Basis.{Basis}

abbrev pub over_of : Basis → ℤ
over_of b = b.power -ℤ (b.target +ℤ b.up)

abbrev pub under_of : Basis → ℤ
under_of b = neg_ℤ ((b.target -ℤ b.down) -ℤ b.power)

unfoldable pub error_of : Basis → ℤ
error_of b = cond (lt_z (pos 0) (over_of b)) (over_of b) (cond (lt_z (under_of b) (pos 0)) (under_of b) (pos 0))

-- "only a positive error counts" where a cap holds (02, 2026-01): the error that the mark goes by
abbrev pub counted_of : Bool → ℤ → ℤ
counted_of capped error = floored capped error

-- "An error exceeds a trigger when 100 times its size is greater than it"
unfoldable pub exceeds : ℤ → ℕ → Bool
exceeds error trigger = ltb trigger (nat_abs error * 100)
