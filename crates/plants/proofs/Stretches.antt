-- The stretch of an aggregate: as a slice of the list of members, how long, that every member is a unit, and what is the same at each.
-- Assumes nothing.
use mathlib.Core.Path.{◌≡◌, refl, ap, ap₂, subst}
use mathlib.Core.Bool.{Bool, true, false, ◌||◌}
use mathlib.Core.List.{List, [], ◌∷◌, map}
use Prim.Native.Nat.{ℕ, zero, suc, ◌+◌, ◌≤◌, ◌<◌}
use native.Mathlib.Omega.{arith}
use borrow.Author.Tests.{eqb-true, eq-eqb}
use lib.Dec.{eqb}
use lib.ListN.{length, get_or, take, drop}
use Rattle.std.proofs.Common.{add-one}
use Rattle.std.proofs.Math.Seq.{drop-cons}
use Rattle.plants.specs.Plants.{elem}
use Rattle.plants.specs.Rosters.{start_of, count_of, entries, stretch_of, roster_sound}
use Rattle.plants.specs.declared.Roster.{Roster}
use Rattle.plants.proofs.Soundness.{place_inside, stretch-inside}

pub length-entries : (xs : List ℕ) (start count : ℕ) → length (entries xs start count) ≡ count
unfolding entries
length-entries xs start zero = refl
length-entries xs start (suc count) = ap suc (length-entries xs (start + 1) count)

-- as a slice
pub slice-entries : (xs : List ℕ) (start count : ℕ) → start + count ≤ length xs → take count (drop start xs) ≡ entries xs start count
unfolding entries
slice-entries xs start zero h = refl
slice-entries xs start (suc count) h =
    rw (drop-cons xs start 0 (omega arith))
    (ap (λ (ys : List ℕ). get_or xs start 0 ∷ ys) (rw add-one (slice-entries xs (suc start) count (omega arith))))

-- at most 64 members
pub stretch-few : (r : Roster) → roster_sound r ≡ true → (j : ℕ) → j < r.aggregates → length (stretch_of r j) ≤ 64
unfolding stretch_of
stretch-few r sound j l = let s = stretch-inside r sound j l in omega (arith, length-entries r.members (start_of r j) (count_of r j))

-- ---- every member is a unit

entries-inside : (xs : List ℕ) (n start count u : ℕ) → ((k : ℕ) → k < start + count → get_or xs k 0 < n) → elem u (entries xs start count) ≡ true → u < n
unfolding entries
entries-inside xs n start zero u h e = absurd (let z : ◌≡◌ {A = ℕ} 0 1 = cc in omega arith)
entries-inside xs n start (suc count) u h e =
    go (eqb u (get_or xs start 0)) refl e (entries-inside xs n (start + 1) count u (λ k l. h k (omega arith)))
  where
    go : (b : Bool) → eqb u (get_or xs start 0) ≡ b → (b || elem u (entries xs (start + 1) count)) ≡ true
        → (elem u (entries xs (start + 1) count) ≡ true → u < n) → u < n
    go true q w later = let same : u ≡ get_or xs start 0 = eqb-true _ _ q in let l = h start (omega arith) in omega arith
    go false q w later = later w

pub member-inside : (r : Roster) → roster_sound r ≡ true → (j : ℕ) → j < r.aggregates → (u : ℕ) → elem u (stretch_of r j) ≡ true → u < r.units
unfolding stretch_of
member-inside r sound j l u e =
    entries-inside r.members r.units (start_of r j) (count_of r j) u
    (λ k h. place_inside r sound k (let s = stretch-inside r sound j l in omega arith)) e

-- and so is what stands at a place of the stretch

or_right : (a b : Bool) → b ≡ true → (a || b) ≡ true
or_right true b e = refl
or_right false b e = e

elem-at : (xs : List ℕ) (i : ℕ) → i < length xs → elem (get_or xs i 0) xs ≡ true
elem-at [] i h = absurd (omega arith)
elem-at (x ∷ xs) zero h = rw (eq-eqb x x refl)
elem-at (x ∷ xs) (suc i) h = or_right (eqb (get_or xs i 0) x) _ (elem-at xs i (omega arith))

pub stretch-at : (r : Roster) → roster_sound r ≡ true → (j : ℕ) → j < r.aggregates → {places : List ℕ} → places ≡ stretch_of r j
    → (i : ℕ) → i < length places → get_or places i 0 < r.units
stretch-at r sound j l {places} e i h =
    let here = get_or places i 0 in
    member-inside r sound j l here (subst (λ (us : List ℕ). elem here us ≡ true) e (elem-at places i h))

-- ---- what is the same at every member

pub map_same : {A : Type 0} (f g : ℕ → A) (us : List ℕ) → ((u : ℕ) → elem u us ≡ true → f u ≡ g u) → map f us ≡ map g us
map_same f g [] h = refl
map_same {A} f g (u ∷ us) h =
    ap₂ (λ (x : A) (xs : List A). x ∷ xs) (h u (rw (eq-eqb u u refl))) (map_same f g us (λ v e. h v (or_right (eqb v u) _ e)))
