-- The digits of a number, one at a time, and how many there are. Assumes nothing.
use mathlib.Core.Path.{◌≡◌, refl, ap}
use mathlib.Core.Bool.{Bool, true, false, cond}
use mathlib.Core.List.{List, [], ◌∷◌, ◌++◌}
use Prim.Native.Nat.{ℕ, zero, suc, ◌+◌, ◌/◌, ◌%◌, ◌^◌, ◌≤◌, ◌<◌}
use native.Mathlib.Nat.{pow-suc}
use native.Mathlib.Omega.{arith}
use borrow.Author.Tests.{lt-ltb, le-ltb}
use lib.Dec.{ltb}
use lib.IntN.{ℤ, pos, negsuc, nat_abs}
use lib.ListN.{length, length-append}
use Rattle.text.specs.Numbers.{decimal_by, decimal_of, sign, whole_of}

-- a limit of one digit more changes nothing where the digits were all there
more : (k n : ℕ) → n < 10 ^ suc k → decimal_by (suc k) n ≡ decimal_by (suc (suc k)) n
unfolding decimal_by
more zero n h =
    let small : n < 10 = omega (arith, h, pow-suc 10 0) in
    rw (lt-ltb n 10 small)
more (suc k) n h =
    let tens : n / 10 < 10 ^ suc k = omega (arith, h, pow-suc 10 (suc k)) in
    ap (λ (l : List ℕ). cond (ltb n 10) [] l ++ ((48 + n % 10) ∷ [])) (more k (n / 10) tens)

-- the digits of n before the last
abbrev pub higher : ℕ → List ℕ
higher n = cond (ltb n 10) [] (decimal_of (n / 10))

pub higher-none : (n : ℕ) → n < 10 → higher n ≡ []
higher-none n h = rw (lt-ltb n 10 h)

pub higher-some : (n : ℕ) → 10 ≤ n → higher n ≡ decimal_of (n / 10)
higher-some n h = rw (le-ltb n 10 h)

pub decimal-higher : (n : ℕ) → n < 2 ^ 64 → decimal_of n ≡ higher n ++ ((48 + n % 10) ∷ [])
unfolding decimal_of decimal_by
decimal-higher n h =
    let tens : n / 10 < 10 ^ 19 = omega arith in
    ap (λ (l : List ℕ). cond (ltb n 10) [] l ++ ((48 + n % 10) ∷ [])) (more 18 (n / 10) tens)

pub decimal-one : (n : ℕ) → n < 10 → decimal_of n ≡ (48 + n % 10) ∷ []
decimal-one n h = rw (higher-none n h) at (decimal-higher n (omega arith))

pub decimal-more : (n : ℕ) → 10 ≤ n → n < 2 ^ 64 → decimal_of n ≡ decimal_of (n / 10) ++ ((48 + n % 10) ∷ [])
decimal-more n h l = rw (higher-some n h) at (decimal-higher n l)

-- k digits hold what is below 10 ^ k
length-by : (limit k n : ℕ) → n < 10 ^ suc k → length (decimal_by limit n) ≤ suc k
unfolding decimal_by
length-by zero k n h = omega arith
length-by (suc limit) zero n h =
    let small : n < 10 = omega (arith, h, pow-suc 10 0) in
    rw (lt-ltb n 10 small) (omega arith)
length-by (suc limit) (suc k) n h =
    let tens : n / 10 < 10 ^ suc k = omega (arith, h, pow-suc 10 (suc k)) in
    rw length-append (go (ltb n 10) (length-by limit k (n / 10) tens))
  where
    go : (b : Bool) → length (decimal_by limit (n / 10)) ≤ suc k → length (cond b [] (decimal_by limit (n / 10))) + 1 ≤ suc (suc k)
    go true l = omega arith
    go false l = omega arith

pub length-decimal : (k n : ℕ) → n < 10 ^ suc k → length (decimal_of n) ≤ suc k
unfolding decimal_of
length-decimal k n h = length-by 20 k n h

-- ---- signed numbers

-- its sign, and its digits
pub whole-signed : (z : ℤ) → whole_of z ≡ sign z ++ decimal_of (nat_abs z)
unfolding whole_of
whole-signed (pos n) = refl
whole-signed (negsuc n) = refl
