-- What 02, 2026-01 says of a semi-scheduled unit, which stands in no chain, sentence by sentence. Assumes nothing.
use mathlib.Core.Path.{◌≡◌, refl, sym}
use mathlib.Core.Bool.{Bool, true, false, false≢true, cond, not, ◌&&◌}
use Prim.Native.Nat.{ℕ}
use Rattle.std.proofs.Common.{Option, Some, None}
use Rattle.std.specs.Option.{option_map}
use Rattle.kinds.specs.Kinds.{kind_of}
use Rattle.kinds.specs.declared.Kind.{Kind}
use Rattle.kinds.specs.declared.Kind.TheVariants.{Generating, Load, Bidirectional, SemiScheduled}
use native.Mathlib.Omega.{arith}
use borrow.Author.Tests.{le-ltb}
use lib.IntN.{pos}
use lib.Signed.{lt_z}
use Rattle.signed.specs.Floors.{floored}
use Rattle.kinds.specs.Kinds.{is_semi_scheduled}
use Rattle.telemetry.specs.Lines.{power_of}
use Rattle.telemetry.specs.declared.Fields.{Fields}
use Rattle.marks.specs.Errors.{error_of, exceeds}
use Rattle.marks.specs.Assessments.{is_missing, is_known, mark_of, judged, without, unit_basis, known_assessment, readable_assessment}
use Rattle.marks.specs.declared.Kept.{Kept}
use Rattle.marks.specs.declared.Mark.TheVariants.{Off, Blank, Clear}
use Rattle.marks.specs.declared.Assessment.{Assessment}

-- a kept line, and a line, with another flag
abbrev kept_with : Bool → Kept → Kept
kept_with capped k = record { capped = capped; target = k.target; raise = k.raise; lower = k.lower }

abbrev line_with : Bool → Fields → Fields
line_with capped f =
    record {
      quality = f.quality;
      mode = f.mode;
      capped = capped;
      target = f.target;
      availability = f.availability;
      raise = f.raise;
      lower = f.lower;
      bid_up = f.bid_up;
      bid_down = f.bid_down;
      readings = f.readings;
    }

-- an error of 0 is beyond no trigger
none-exceeds : (small large : ℕ) (doubtful : Bool) → mark_of (pos 0) small large doubtful ≡ Clear
unfolding mark_of exceeds
none-exceeds small large doubtful = rw (le-ltb small 0 (omega arith))

module _ (f : Fields) where
  pub unknown-blank : (k : Option Kept) → is_known f k ≡ false → readable_assessment (kind_of 4) false f k ≡ without Blank
  unfolding readable_assessment is_known
  unknown-blank (Some k) known = go (is_missing (power_of f)) known
    where
      go : (missing : Bool) → (not missing && true) ≡ false → cond missing (without Blank) (known_assessment (kind_of 4) f k) ≡ without Blank
      go true h = refl
      go false h = absurd (false≢true (sym h))
  unknown-blank None known = refl

  -- "The flag is kept with the target": this line's own plays no part yet, and the kept one none for other kinds
  pub own-flag : (kind : Option Kind) (chained capped : Bool) (k : Option Kept)
      → readable_assessment kind chained (line_with capped f) k ≡ readable_assessment kind chained f k
  unfolding readable_assessment known_assessment judged unit_basis is_known power_of
  own-flag kind chained capped (Some k) = refl
  own-flag kind chained capped None = refl

  pub other-kinds : (kind : Option Kind) (chained capped : Bool) (k : Option Kept) → is_semi_scheduled kind ≡ false
      → readable_assessment kind chained f (option_map (kept_with capped) k) ≡ readable_assessment kind chained f k
  unfolding readable_assessment known_assessment judged unit_basis is_known error_of
  other-kinds kind chained capped None other = refl
  other-kinds (Some Generating) chained capped (Some k) other = refl
  other-kinds (Some Load) chained capped (Some k) other = refl
  other-kinds (Some Bidirectional) chained capped (Some k) other = refl
  other-kinds (Some SemiScheduled) chained capped (Some k) other = absurd (false≢true (sym other))
  other-kinds None chained capped (Some k) other = refl

module _ (f : Fields) (k : Kept) where
  -- a unit of the kind with this number, in no chain
  abbrev assessed : ℕ → Assessment
  assessed kind = readable_assessment (kind_of kind) false f (Some k)

  -- a unit of the kind with this number, in no chain, which has no value or has one
  abbrev either : Bool → ℕ → Assessment
  either missing kind = cond missing (without Blank) (known_assessment (kind_of kind) f k)

  -- "A kept flag of 0 gives OFF, tested after the rule for nothing kept"
  pub uncapped-off : is_known f (Some k) ≡ true → k.capped ≡ false → assessed 4 ≡ without Off
  unfolding readable_assessment known_assessment is_known kind_of
  uncapped-off known flag = go (is_missing (power_of f)) known
    where
      go : (missing : Bool) → (not missing && true) ≡ true → either missing 4 ≡ without Off
      go true h = absurd (false≢true h)
      go false h = rw flag

  -- "With a kept flag of 1 only a positive error counts": save for a negative error it is assessed as kind 1 is
  pub capped-as-generating : k.capped ≡ true → lt_z (assessed 1).error (pos 0) ≡ false → assessed 4 ≡ assessed 1
  unfolding readable_assessment known_assessment judged floored unit_basis error_of kind_of
  capped-as-generating flag positive = go (is_missing (power_of f)) positive
    where
      go : (missing : Bool) → lt_z (either missing 1).error (pos 0) ≡ false → either missing 4 ≡ either missing 1
      go true h = refl
      go false h = rw (flag, h)

  -- "a negative one is reported and marked CLEAR", with its trigger and whatever the quality
  pub capped-below : k.capped ≡ true → lt_z (assessed 1).error (pos 0) ≡ true
      → ((assessed 4).mark ≡ Clear) × ((assessed 4).error ≡ (assessed 1).error) × ((assessed 4).trigger ≡ (assessed 1).trigger)
  unfolding readable_assessment known_assessment judged floored unit_basis error_of kind_of
  capped-below flag negative = go (is_missing (power_of f)) negative
    where
      go : (missing : Bool) → lt_z (either missing 1).error (pos 0) ≡ true
          → ((either missing 4).mark ≡ Clear) × ((either missing 4).error ≡ (either missing 1).error)
          × ((either missing 4).trigger ≡ (either missing 1).trigger)
      go true h = absurd (false≢true h)
      go false h = rw (flag, h) (none-exceeds _ _ _, refl, refl)
