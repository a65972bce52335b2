-- Text put piece by piece: room for the whole is room for each piece in its turn, and what the pieces leave is what the whole
-- leaves. Assumes nothing.
use mathlib.Core.Path.{◌≡◌, refl, sym, ◌∙◌}
use mathlib.Core.List.{List, [], ◌∷◌, ◌++◌}
use Prim.Native.Nat.{ℕ, ◌+◌, ◌-◌, ◌/◌, ◌%◌, ◌^◌, ◌≤◌, ◌<◌}
use native.Mathlib.Nat.{add-zero}
use native.Mathlib.Numerals.{add-one}
use native.Mathlib.Omega.{arith}
use lib.ListN.{take-append-drop, length, set, length-append}
use borrow.Rule.Slice.PartMut.{put_mid}
use lib.Seq.{set_split, drop-drop}
use Rattle.wire.specs.Fields.{put_at}
use Rattle.wire.proofs.Laws.{length-put, put-put}
use Rattle.text.specs.Numbers.{decimal_of}
use Rattle.text.specs.Puts.{Room, Put}
use Rattle.text.proofs.Numbers.{decimal-one, decimal-more}

-- nothing, and one store
pub nothing : (out : List ℕ) (at : ℕ) → Put out at [] at out
unfolding put_at
nothing out at = record { place = omega arith; bytes = rw (add-zero at, take-append-drop at out) }

pub stored : (out : List ℕ) (at b : ℕ) → Room out at (b ∷ []) → Put out at (b ∷ []) (at + 1) (set out at b)
unfolding put_at
stored out at b room = record { place = refl; bytes = rw (add-one at) (set_split out at b (omega (arith, room.fits))) }

module _ {out : List ℕ} {at : ℕ} where
  -- the first piece
  pub room-first : (xs ys : List ℕ) → Room out at (xs ++ ys) → Room out at xs
  room-first xs ys room = record { fits = omega (arith, room.fits, length-append xs ys) }

  module _ {xs : List ℕ} {next : ℕ} {after : List ℕ} (first : Put out at xs next after) where
    -- what is left of the room behind it
    pub room-left : (ys : List ℕ) → Room out at (xs ++ ys) → Room after next ys
    room-left ys room =
        let sum = length-append xs ys in
        let fits : at + length xs ≤ length out = omega (arith, room.fits) in
        record { fits = rw (first.place, first.bytes, length-put out at xs fits) (omega (arith, room.fits)) }

    -- both pieces
    pub then : {ys : List ℕ} {last : ℕ} {end : List ℕ} → Room out at (xs ++ ys) → Put after next ys last end → Put out at (xs ++ ys) last end
    then {ys} {last} {end} room second =
        let sum = length-append xs ys in
        let whole : next + length ys ≤ length out = omega (arith, room.fits, first.place) in
        record {
          place = omega (arith, first.place, second.place);
          bytes = second.bytes ∙ rw first.bytes (put-put out at next xs ys (sym first.place) whole);
        }

-- ---- bytes copied into a part that was lent

pub copied : (out src part : List ℕ) (at : ℕ) → Room out at src → part ≡ src
    → Put out at src (at + length src) (put_mid at (at + length src - at) out part)
unfolding put_at
copied out src part at room e =
    let size : at + length src - at ≡ length src = omega arith in
    record { place = refl; bytes = rw (e, size, drop-drop (length src) at out) }

-- ---- the digits of a number

module _ {out : List ℕ} {at n : ℕ} (room : Room out at (decimal_of n)) where
  pub room-one : n < 10 → Room out at ((48 + n % 10) ∷ [])
  room-one h = rw (decimal-one n h) at room

  pub put_one : {next : ℕ} {after : List ℕ} → n < 10 → Put out at ((48 + n % 10) ∷ []) next after → Put out at (decimal_of n) next after
  put_one h put = rw (decimal-one n h) put

  module _ (h : 10 ≤ n) (l : n < 2 ^ 64) where
    pub room-higher : Room out at (decimal_of (n / 10))
    room-higher = room-first (decimal_of (n / 10)) ((48 + n % 10) ∷ []) (rw (decimal-more n h l) at room)

    module _ {next : ℕ} {after : List ℕ} (higher : Put out at (decimal_of (n / 10)) next after) where
      pub room-last : Room after next ((48 + n % 10) ∷ [])
      room-last = room-left higher ((48 + n % 10) ∷ []) (rw (decimal-more n h l) at room)

      pub then-last : {last : ℕ} {end : List ℕ} → Put after next ((48 + n % 10) ∷ []) last end → Put out at (decimal_of n) last end
      then-last lower = rw (decimal-more n h l) (then higher (rw (decimal-more n h l) at room) lower)
