-- A u32 and an i32 as four bytes, said a second time, by remainders and by a sum, without `number_of` and `bytes_of` (01: "All fields are
-- little-endian. .. u32 and i32 are 32-bit unsigned and signed").
use Rattle.std.specs.Prelude.{◌≡◌, List, [], ◌∷◌, ℕ, ◌+◌, ◌-◌, ◌*◌, ◌/◌, ◌%◌, ◌<◌, ℤ, pos, negsuc, get_or}

-- the four bytes of a u32, the lowest first
abbrev pub word_bytes : ℕ → List ℕ
word_bytes n = n % 256 ∷ n / 256 % 256 ∷ n / 65536 % 256 ∷ n / 16777216 % 256 ∷ []

-- the u32 with the bytes of an i32: the number itself, or 4294967296 more where it is below zero. `negsuc n` is -(n + 1)
abbrev pub unsigned_of : ℤ → ℕ
unsigned_of (pos n) = n
unsigned_of (negsuc n) = 4294967296 - (n + 1)

-- the four bytes from `at` on write the u32 n
pub record Word (bytes : List ℕ) (at n : ℕ) : Type 0 where
  pub below :
      (get_or bytes at 0 < 256) × (get_or bytes (at + 1) 0 < 256) × (get_or bytes (at + 2) 0 < 256) × (get_or bytes (at + 3) 0 < 256)
  pub sum : get_or bytes at 0 + 256 * get_or bytes (at + 1) 0 + 65536 * get_or bytes (at + 2) 0 + 16777216 * get_or bytes (at + 3) 0 ≡ n

-- and the i32 z
abbrev pub Whole : List ℕ → ℕ → ℤ → Type 0
Whole bytes at z = Word bytes at (unsigned_of z)
