-- How often a unit stands in lists that are put one after another, whatever their order; and how long a list without a unit
-- twice can be. Assumes nothing.
use mathlib.Core.Path.{◌≡◌, refl}
use mathlib.Core.Logic.{⊎_elim}
use mathlib.Core.Bool.{Bool, true, false, cond, false≢true}
use mathlib.Core.List.{List, [], ◌∷◌, map}
use Prim.Native.Nat.{ℕ, zero, suc, ◌+◌, ◌≤◌, ◌<◌}
use native.Mathlib.Nat.{eq-or-lt_of_le, le_of_suc-le-suc}
use native.Mathlib.Omega.{arith}
use borrow.Author.Tests.{leb-true, eqb-true, eqb-false, ne_eqb}
use lib.Dec.{eqb}
use lib.ListN.{length}
use Rattle.std.proofs.lemmas.Bool.{cases_lt}
use Rattle.trace.specs.Sweeps.{every, records}
use Rattle.std.specs.List.{list_all}
use Rattle.trace.proofs.Sweeps.{every-at}
use Rattle.trace.proofs.Tests.{and_l, and_r, and_both, or_cases}
use Rattle.plants.specs.Plants.{place, elem}
use Rattle.chains.specs.Chains.{times_in}
use Rattle.chains.specs.Rules.{once_at}
use Rattle.chains.proofs.Steps.{times-append, times-same, times_none, Units}

-- ---- lists one after another

module _ (f : ℕ → List ℕ) (unit : ℕ) where
  times-next : (k : ℕ) → times_in unit (records f (suc k)) ≡ times_in unit (records f k) + times_in unit (f k)
  unfolding records
  times-next k = times-append unit (records f k) (f k)

  pub times-one : (k j : ℕ) → j < k → times_in unit (f j) ≤ times_in unit (records f k)
  times-one zero j l = absurd (omega arith)
  times-one (suc k) j l =
      ⊎_elim (λ e. rw e (omega (arith, times-next k))) (λ b. omega (arith, times-next k, times-one k j b)) (eq-or-lt_of_le (le_of_suc-le-suc l))

  pub times-two : (k i j : ℕ) → i < j → j < k → times_in unit (f i) + times_in unit (f j) ≤ times_in unit (records f k)
  times-two zero i j a b = absurd (omega arith)
  times-two (suc k) i j a b =
      ⊎_elim
      (λ e. let l : i < k = omega arith in rw e (omega (arith, times-next k, times-one k i l)))
      (λ c. omega (arith, times-next k, times-two k i j a c))
      (eq-or-lt_of_le (le_of_suc-le-suc b))

  pub times-nowhere : (k : ℕ) → ((j : ℕ) → j < k → times_in unit (f j) ≡ 0) → times_in unit (records f k) ≡ 0
  unfolding records
  times-nowhere zero h = times_none unit
  times-nowhere (suc k) h =
      let a = times-nowhere k (λ j l. h j (omega arith)) in
      let b = h k (omega arith) in
      omega (arith, times-next k)

  pub times-somewhere : (k : ℕ) → 1 ≤ times_in unit (records f k) → (j : ℕ) × ((j < k) × (1 ≤ times_in unit (f j)))
  unfolding records
  times-somewhere zero h = absurd (omega (arith, times_none unit))
  times-somewhere (suc k) h =
      ⊎_elim
      (λ b. let r = times-somewhere k (omega (arith, times-next k)) in (r.0, (omega (arith, r.1.0), r.1.1)))
      (λ b. (k, (omega arith, b)))
      (cases_lt (times_in unit (f k)) 1)

  -- at most once in each, and in no two: at most once in all
  pub times-at-most : (k : ℕ) → ((j : ℕ) → j < k → times_in unit (f j) ≤ 1)
      → ((i j : ℕ) → i < j → j < k → 1 ≤ times_in unit (f j) → times_in unit (f i) ≡ 0) → times_in unit (records f k) ≤ 1
  unfolding records
  times-at-most zero one apart = omega (arith, times_none unit)
  times-at-most (suc k) one apart =
      let rest = times-at-most k (λ j l. one j (omega arith)) (λ i j a b. apart i j a (omega arith)) in
      ⊎_elim
      (λ b. omega (arith, times-next k))
      (λ b. omega (arith, times-next k, times-nowhere k (λ i l. apart i k l (omega arith) b), one k (omega arith)))
      (cases_lt (times_in unit (f k)) 1)

-- ---- a list of units from 1 to n with none twice has at most n

unfoldable total : (ℕ → ℕ) → ℕ → ℕ
total f zero = 0
total f (suc k) = total f k + f k

total-add : (f g h : ℕ → ℕ) → ((i : ℕ) → h i ≡ f i + g i) → (k : ℕ) → total h k ≡ total f k + total g k
unfolding total
total-add f g h e zero = refl
total-add f g h e (suc k) = let r = total-add f g h e k in let s = e k in omega arith

total-most : (f : ℕ → ℕ) (k : ℕ) → ((i : ℕ) → i < k → f i ≤ 1) → total f k ≤ k
unfolding total
total-most f zero h = omega arith
total-most f (suc k) h = let r = total-most f k (λ i l. h i (omega arith)) in let s = h k (omega arith) in omega arith

total-nothing : (f : ℕ → ℕ) → ((i : ℕ) → f i ≡ 0) → (k : ℕ) → total f k ≡ 0
unfolding total
total-nothing f h zero = refl
total-nothing f h (suc k) = let r = total-nothing f h k in let s = h k in omega arith

module _ (x : ℕ) where
  abbrev here : ℕ → ℕ
  here i = cond (eqb x (suc i)) 1 0

  total-below : (k : ℕ) → k < x → total here k ≡ 0
  unfolding total
  total-below zero l = refl
  total-below (suc k) l =
      let r = total-below k (omega arith) in
      let s : here k ≡ 0 = rw (ne_eqb x (suc k) (λ (e : x ≡ suc k). omega arith)) in
      omega arith

  total_here : (k : ℕ) → 1 ≤ x → x ≤ k → total here k ≡ 1
  unfolding total
  total_here zero a b = absurd (omega arith)
  total_here (suc k) a b = go (eqb x (suc k)) refl (λ c. total_here k a c)
    where
      go : (t : Bool) → eqb x (suc k) ≡ t → (x ≤ k → total here k ≡ 1) → total here k + cond t 1 0 ≡ 1
      go true e rest = let q = eqb-true x (suc k) e in let r = total-below k (omega arith) in omega arith
      go false e rest = let n = eqb-false x (suc k) e in let r = rest (omega arith) in omega arith

total-times : (n : ℕ) (xs : List ℕ) → Units n xs → total (λ i. times_in (suc i) xs) n ≡ length xs
unfolding times_in Units
total-times n [] u = total-nothing (λ i. times_in (suc i) []) (λ i. refl) n
total-times n (x ∷ xs) u =
    let r = total-times n xs u.1 in
    let a = total-add (here x) (λ i. times_in (suc i) xs) (λ i. times_in (suc i) (x ∷ xs)) (λ i. refl) n in
    let b = total_here x n u.0.0 u.0.1 in
    omega arith

pub once-length : (n : ℕ) (xs : List ℕ) → Units n xs → every (once_at xs) n ≡ true → length xs ≤ n
once-length n xs u e =
    let t = total-times n xs u in
    let m = total-most (λ i. times_in (suc i) xs) n (λ i l. leb-true (times_in (suc i) xs) 1 (every-at (once_at xs) n e i l)) in
    omega arith

-- ---- a test of the places of a list of units, at each unit that stands there
module _ (p : ℕ → Bool) (n : ℕ) where
  pub all-each : (units : List ℕ) → Units n units → list_all p (map place units) ≡ true → (i : ℕ) → 1 ≤ times_in (suc i) units → p i ≡ true
  unfolding Units times_in
  all-each [] u e i m = absurd (omega arith)
  all-each (zero ∷ units) u e i m = absurd (omega (arith, u.0.0))
  all-each (suc k ∷ units) u e i m =
      go (eqb (suc k) (suc i)) refl m (all-each units u.1 (and_r (p k) (list_all p (map place units)) e) i)
    where
      go : (t : Bool) → eqb (suc k) (suc i) ≡ t → 1 ≤ cond t 1 0 + times_in (suc i) units → (1 ≤ times_in (suc i) units → p i ≡ true) → p i ≡ true
      go true q l rest =
          let same : i ≡ k = omega (arith, eqb-true (suc k) (suc i) q) in rw same (and_l (p k) (list_all p (map place units)) e)
      go false q l rest = rest (omega arith)

  pub each-all : (units : List ℕ) → Units n units → ((i : ℕ) → 1 ≤ times_in (suc i) units → p i ≡ true) → list_all p (map place units) ≡ true
  unfolding Units times_in
  each-all [] u h = refl
  each-all (zero ∷ units) u h = absurd (omega (arith, u.0.0))
  each-all (suc k ∷ units) u h =
      and_both (p k) (list_all p (map place units)) (h k (omega (arith, times-same (suc k) units)))
      (each-all units u.1 (λ i m. h i (omega arith)))

-- whoever's place stands among theirs is one of them
pub elem-times : (n : ℕ) (units : List ℕ) → Units n units → (i : ℕ) → elem i (map place units) ≡ true → 1 ≤ times_in (suc i) units
unfolding Units times_in
elem-times n [] u i e = absurd (false≢true e)
elem-times n (zero ∷ units) u i e = absurd (omega (arith, u.0.0))
elem-times n (suc k ∷ units) u i e =
    ⊎_elim
    (λ q. rw (eqb-true i k q) (omega (arith, times-same (suc k) units)))
    (λ q. omega (arith, elem-times n units u.1 i q))
    (or_cases (eqb i k) (elem i (map place units)) e)
