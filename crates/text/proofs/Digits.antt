-- The digits of a number say which number it is: reading them gives it back, each is a digit, and there is no 0 in front. Assumes nothing.
use mathlib.Core.Path.{◌≡◌, refl, sym, ap, ◌∙◌}
use mathlib.Core.Logic.{◌⊎◌, inl, inr}
use mathlib.Core.Bool.{Bool, true, false, cond}
use mathlib.Core.List.{List, [], ◌∷◌, ◌++◌, Memᴰ}
use Prim.Native.Nat.{ℕ, zero, suc, ◌+◌, ◌-◌, ◌*◌, ◌/◌, ◌%◌, ◌^◌, ◌≤◌, ◌<◌}
use native.Mathlib.Nat.{pow-suc}
use native.Mathlib.Omega.{arith}
use borrow.Author.Tests.{ltb-true, ltb-false}
use lib.Dec.{ltb}
use lib.IntN.{ℤ, pos, negsuc, nat_abs}
use lib.ListN.{get_or}
use Rattle.text.specs.Numbers.{decimal_by, decimal_of, whole_of}

-- the number that decimal digits write behind those that wrote `before`, and by themselves
unfoldable pub number_from : ℕ → List ℕ → ℕ
number_from before [] = before
number_from before (digit ∷ digits) = number_from (10 * before + (digit - 48)) digits

abbrev pub number_in : List ℕ → ℕ
number_in digits = number_from 0 digits

-- one digit more at the end
pub number-snoc : (before : ℕ) (digits : List ℕ) (digit : ℕ)
    → number_from before (digits ++ (digit ∷ [])) ≡ 10 * number_from before digits + (digit - 48)
unfolding number_from
number-snoc before [] digit = refl
number-snoc before (first ∷ digits) digit = number-snoc (10 * before + (first - 48)) digits digit

-- by a limit that holds all of the digits
back_by : (limit n : ℕ) → n < 10 ^ limit → number_in (decimal_by limit n) ≡ n
unfolding decimal_by number_from
back_by zero n h = omega arith
back_by (suc limit) n h =
    let tens : n / 10 < 10 ^ limit = omega (arith, pow-suc 10 limit) in
    rw number-snoc (go (ltb n 10) refl (back_by limit (n / 10) tens))
  where
    go : (b : Bool) → ltb n 10 ≡ b → number_in (decimal_by limit (n / 10)) ≡ n / 10
        → 10 * number_in (cond b [] (decimal_by limit (n / 10))) + (48 + n % 10 - 48) ≡ n
    go true e higher = omega (arith, ltb-true)
    go false e higher = omega arith

-- reading the digits of a number gives it back
pub number-back : (n : ℕ) → n < 2 ^ 64 → number_in (decimal_of n) ≡ n
unfolding decimal_of
number-back n h = back_by 20 n (omega arith)

-- so no two numbers have the same text
pub decimal-apart : (m n : ℕ) → m < 2 ^ 64 → n < 2 ^ 64 → decimal_of m ≡ decimal_of n → m ≡ n
decimal-apart m n k l e = sym (number-back m k) ∙ ap number_in e ∙ number-back n l

-- ---- each is a digit

-- by any limit
digits-by : (limit n : ℕ) {digit : ℕ} → Memᴰ digit (decimal_by limit n) → (48 ≤ digit) × (digit ≤ 57)
unfolding decimal_by
digits-by zero n m = absurd (mathlib.Core.List.Memᴰ.not-nil m)
digits-by (suc limit) n {digit} m =
    go (ltb n 10) (mathlib.Core.List.Memᴰ.append_cases (cond (ltb n 10) [] (decimal_by limit (n / 10))) m) (digits-by limit (n / 10))
  where
    go : (b : Bool) → Memᴰ digit (cond b [] (decimal_by limit (n / 10))) ⊎ Memᴰ digit ((48 + n % 10) ∷ [])
        → (Memᴰ digit (decimal_by limit (n / 10)) → (48 ≤ digit) × (digit ≤ 57)) → (48 ≤ digit) × (digit ≤ 57)
    go true (inl h) higher = absurd (mathlib.Core.List.Memᴰ.not-nil h)
    go false (inl h) higher = higher h
    go b (inr h) higher = let e : digit ≡ 48 + n % 10 = mathlib.Core.List.Memᴰ.eq_of_singleton h in (omega arith, omega arith)

-- nothing but the codes of 0 to 9
pub decimal-digits : (n : ℕ) {digit : ℕ} → Memᴰ digit (decimal_of n) → (48 ≤ digit) × (digit ≤ 57)
unfolding decimal_of
decimal-digits n = digits-by 20 n

-- ---- the first digit

-- by a limit that holds all of the digits
front_by : (limit n : ℕ) → 0 < n → n < 10 ^ limit → 48 < get_or (decimal_by limit n) 0 0
unfolding decimal_by
front_by zero n p h = absurd (omega arith)
front_by (suc limit) n p h =
    let tens : n / 10 < 10 ^ limit = omega (arith, pow-suc 10 limit) in
    go (ltb n 10) refl λ l. front_by limit (n / 10) l tens
  where
    behind : (xs ys : List ℕ) → 48 < get_or xs 0 0 → 48 < get_or (xs ++ ys) 0 0
    behind [] ys h = absurd (omega arith)
    behind (x ∷ xs) ys h = h

    go : (b : Bool) → ltb n 10 ≡ b → (0 < n / 10 → 48 < get_or (decimal_by limit (n / 10)) 0 0)
        → 48 < get_or (cond b [] (decimal_by limit (n / 10)) ++ ((48 + n % 10) ∷ [])) 0 0
    go true e higher = omega (arith, ltb-true)
    go false e higher = behind (decimal_by limit (n / 10)) ((48 + n % 10) ∷ []) (higher (omega (arith, ltb-false)))

-- no 0 stands in front, but for 0 itself
pub decimal-front : (n : ℕ) → 0 < n → n < 2 ^ 64 → 48 < get_or (decimal_of n) 0 0
unfolding decimal_of
decimal-front n p h = front_by 20 n p (omega arith)

-- ---- signed numbers

-- the text of a natural number does not begin with a minus sign
unsigned : (n : ℕ) (text : List ℕ) → decimal_of n ≡ 45 ∷ text → ⊥
unsigned n text e =
    let sign : Memᴰ 45 (decimal_of n) = rw e (mathlib.Core.List.Memᴰ.head refl) in
    omega (arith, (decimal-digits n sign).0)

-- no two signed numbers have the same text
pub whole_apart : (y z : ℤ) → nat_abs y < 2 ^ 64 → nat_abs z < 2 ^ 64 → whole_of y ≡ whole_of z → y ≡ z
unfolding whole_of
whole_apart (pos m) (pos n) k l e = ap pos (decimal-apart m n k l e)
whole_apart (pos m) (negsuc n) k l e = absurd (unsigned m (decimal_of (suc n)) e)
whole_apart (negsuc m) (pos n) k l e = absurd (unsigned n (decimal_of (suc m)) (sym e))
whole_apart (negsuc m) (negsuc n) k l e =
    let digits : decimal_of (suc m) ≡ decimal_of (suc n) = cc in
    let same : m ≡ n = omega (arith, decimal-apart (suc m) (suc n) k l digits) in
    rw same
