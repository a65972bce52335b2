-- What the definitions of fields write and read is what `Words` says of four bytes. Assumes nothing.
use mathlib.Core.Path.{◌≡◌, refl}
use mathlib.Core.List.{List}
use Prim.Native.Nat.{ℕ, ◌+◌, ◌*◌, ◌/◌, ◌%◌, ◌≤◌, ◌<◌}
use native.Mathlib.Omega.{arith}
use lib.IntN.{ℤ, pos, negsuc}
use lib.ListN.{length, get_or}
use mir.Syntax.{w32}
use mir.Val.{SFits, to_z, of_z}
use mir.ValLaws.{to_z-of_z}
use Rattle.wire.specs.Fields.{number_of, bytes_of, word_at}
use Rattle.wire.specs.Words.{word_bytes, unsigned_of, Word}
use Rattle.wire.proofs.Laws.{four}

-- ---- written

-- the bytes that are written for a number are its four bytes
pub bytes-word : (n : ℕ) → bytes_of 4 n ≡ word_bytes n
unfolding bytes_of
bytes-word n =
    let third : n / 256 / 256 ≡ n / 65536 = omega arith in
    let fourth : n / 256 / 256 / 256 ≡ n / 16777216 = omega arith in
    rw (fourth, third) refl

-- and write it
pub word-sum : (n : ℕ) → n < 4294967296 → n % 256 + 256 * (n / 256 % 256) + 65536 * (n / 65536 % 256) + 16777216 * (n / 16777216 % 256) ≡ n
word-sum n h = omega arith

-- ---- read

-- the four bytes of a number are read as the number
pub number-word : (n : ℕ) → n < 4294967296 → number_of (word_bytes n) ≡ n
unfolding number_of
number-word n h = omega (arith, word-sum n h)

-- the number that is read from any four bytes is the one that they write
pub word-read : (s : List ℕ) (at : ℕ) → at + 4 ≤ length s
    → get_or s at 0 < 256 → get_or s (at + 1) 0 < 256 → get_or s (at + 2) 0 < 256 → get_or s (at + 3) 0 < 256
    → Word s at (word_at s at)
word-read s at h a b c d = omega (arith, four s at h)

-- ---- signed

pub unsigned-bits : (z : ℤ) → of_z w32 z ≡ unsigned_of z
unsigned-bits (pos n) = refl
unsigned-bits (negsuc n) = omega arith

pub signed-read : (z : ℤ) → SFits w32 z → to_z w32 (unsigned_of z) ≡ z
signed-read z h = rw (← unsigned-bits z) (to_z-of_z w32 z h)

pub unsigned-below : (z : ℤ) → SFits w32 z → unsigned_of z < 4294967296
unsigned-below (pos n) h = omega arith
unsigned-below (negsuc n) h = omega arith
