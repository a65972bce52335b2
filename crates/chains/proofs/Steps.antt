-- A chain, one unit at a time; how often a unit stands in a list. Assumes nothing.
use mathlib.Core.Path.{◌≡◌, refl, ap}
use mathlib.Core.Bool.{Bool, true, false, cond}
use mathlib.Core.List.{List, [], ◌∷◌, ◌++◌}
use Prim.Native.Nat.{ℕ, zero, suc, ◌+◌, ◌-◌, ◌≤◌, ◌<◌, zero-le}
use native.Mathlib.Omega.{arith}
use borrow.Author.Tests.{eqb-true, eq-eqb, ne_eqb}
use lib.Dec.{eqb}
use lib.ListN.{length, get_or}
use Rattle.chains.specs.Chains.{chain, Chain, ended, through, times_in}

-- ---- steps along a chain from `unit`, of which so many are left

module _ (next : List ℕ) where
  pub chain-end : (left : ℕ) → chain next left 0 ≡ []
  unfolding chain
  chain-end zero = refl
  chain-end (suc k) = refl

  pub chain-out : (unit : ℕ) → chain next 0 unit ≡ []
  unfolding chain
  chain-out unit = refl

  pub chain_more : (left unit : ℕ) → 0 < left → 0 < unit
      → chain next left unit ≡ suc (unit - 1) ∷ chain next (left - 1) (get_or next (unit - 1) 0)
  unfolding chain
  chain_more zero unit l h = absurd (omega arith)
  chain_more (suc k) zero l h = absurd (omega arith)
  chain_more (suc k) (suc i) l h =
      let a : suc k - 1 ≡ k = omega arith in
      let b : suc i - 1 ≡ i = omega arith in
      rw (a, b)

  -- the same after so many turns of a loop of `most`
  pub chain-turn : (most turns unit : ℕ) → turns < most → 0 < unit
      → chain next (most - turns) unit ≡ unit ∷ chain next (most - (turns + 1)) (get_or next (unit - 1) 0)
  chain-turn most turns unit l h =
      let one : most - turns - 1 ≡ most - (turns + 1) = omega arith in
      let same : suc (unit - 1) ≡ unit = omega arith in
      rw (chain_more (most - turns) unit (omega arith) h, one, same)

  pub length-chain : (steps unit : ℕ) → length (chain next steps unit) ≤ steps
  unfolding chain
  length-chain zero unit = zero-le
  length-chain (suc k) zero = zero-le
  length-chain (suc k) (suc i) = let h = length-chain k (get_or next i 0) in omega arith

  -- a chain that stops before its steps are used up was followed to its end
  pub chain-whole : (steps unit : ℕ) → length (chain next steps unit) < steps → Chain next unit (chain next steps unit)
  unfolding chain
  chain-whole zero unit l = absurd (omega arith)
  chain-whole (suc k) zero l = ended
  chain-whole (suc k) (suc i) l = through (chain-whole k (get_or next i 0) (omega arith))

  -- and is what any number of steps from its length on gives
  pub chain_same : {unit : ℕ} {units : List ℕ} → Chain next unit units → (steps : ℕ) → length units ≤ steps → chain next steps unit ≡ units
  unfolding chain
  chain_same ended steps l = chain-end steps
  chain_same (through r) zero l = absurd (omega arith)
  chain_same (through {i} r) (suc k) l = ap (λ (xs : List ℕ). suc i ∷ xs) (chain_same r k (omega arith))

-- ---- how often a unit stands in a list

pub times-append : (unit : ℕ) (xs ys : List ℕ) → times_in unit (xs ++ ys) ≡ times_in unit xs + times_in unit ys
unfolding times_in
times-append unit [] ys = omega arith
times-append unit (x ∷ xs) ys = let h = times-append unit xs ys in omega arith

pub times-same : (unit : ℕ) (xs : List ℕ) → times_in unit (unit ∷ xs) ≡ suc (times_in unit xs)
unfolding times_in
times-same unit xs = rw (eq-eqb unit unit refl) (omega arith)

pub times-other : (unit x : ℕ) (xs : List ℕ) → (x ≡ unit → ⊥) → times_in unit (x ∷ xs) ≡ times_in unit xs
unfolding times_in
times-other unit x xs n = rw (ne_eqb x unit n) (omega arith)

pub times_none : (unit : ℕ) → times_in unit [] ≡ 0
unfolding times_in
times_none unit = refl

-- ---- lists of units from 1 to n

-- every unit that stands in the list is from 1 to n
unfoldable pub Units : ℕ → List ℕ → Type 0
Units n [] = Unit {0}
Units n (x ∷ xs) = ((1 ≤ x) × (x ≤ n)) × Units n xs

module _ (n : ℕ) where
  pub units-none : Units n []
  unfolding Units
  units-none = tt

  pub units-append : (xs ys : List ℕ) → Units n xs → Units n ys → Units n (xs ++ ys)
  unfolding Units
  units-append [] ys a b = b
  units-append (x ∷ xs) ys a b = (a.0, units-append xs ys a.1 b)

  pub units_in : (xs : List ℕ) → Units n xs → (unit : ℕ) → 1 ≤ times_in unit xs → (1 ≤ unit) × (unit ≤ n)
  unfolding Units times_in
  units_in [] a unit h = absurd (omega arith)
  units_in (x ∷ xs) a unit h = go (eqb x unit) refl h (units_in xs a.1 unit)
    where
      go : (t : Bool) → eqb x unit ≡ t → 1 ≤ cond t 1 0 + times_in unit xs → (1 ≤ times_in unit xs → (1 ≤ unit) × (unit ≤ n))
          → (1 ≤ unit) × (unit ≤ n)
      go true e l rest = let q = eqb-true x unit e in (omega (arith, a.0.0), omega (arith, a.0.1))
      go false e l rest = rest (omega arith)
