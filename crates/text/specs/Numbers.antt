-- Words and numbers in ASCII.
use Rattle.std.specs.Prelude.{cond, List, [], ◌∷◌, ◌++◌, ℕ, zero, suc, ◌+◌, ◌/◌, ◌%◌, ltb, ℤ, pos, negsuc}
use Prim.Native.Char.{code}
use Prim.Native.String.{String, [] as empty, ◌∷◌ as ◌then◌}

-- the code of each character
abbrev pub ascii : String → List ℕ
ascii empty = []
ascii (c then s) = code c ∷ ascii s

-- the digits of n, the highest first, with no 0 in front; where it has more than a limit, the last ones
unfoldable pub decimal_by : ℕ → ℕ → List ℕ
decimal_by zero n = []
decimal_by (suc limit) n = cond (ltb n 10) [] (decimal_by limit (n / 10)) ++ ((48 + n % 10) ∷ [])

-- a number of 64 bits in decimal: it has at most 20 digits
unfoldable pub decimal_of : ℕ → List ℕ
decimal_of n = decimal_by 20 n

-- z in decimal, with a minus sign where it is below 0
unfoldable pub whole_of : ℤ → List ℕ
whole_of (pos n) = decimal_of n
whole_of (negsuc n) = 45 ∷ decimal_of (suc n)

-- the sign of z, if it has one
abbrev pub sign : ℤ → List ℕ
sign (pos n) = []
sign (negsuc n) = 45 ∷ []
