-- `(0..n).all(..)` against `every`. Assumes nothing.
use mathlib.Core.Path.{◌≡◌, sym, ap}
use mathlib.Core.Bool.{Bool, true, false}
use mathlib.Core.List.{List}
use Prim.Native.Nat.{ℕ, ◌<◌}
use native.Mathlib.Omega.{arith}
use lib.ListN.{length, get_or}
use Rattle.std.specs.Bool.{MatchBool}
use Rattle.std.specs.List.{list_all, range_with_len, AllWithin, HoldsAt}
use Rattle.std.proofs.lemmas.List.FromFn.{length-range_with_len, get_or-range_with_len}
use Rattle.trace.specs.Sweeps.{every}
use Rattle.trace.proofs.Sweeps.{every-all, every-fails, every_list}

module _ (f : ℕ → Bool) (n : ℕ) where
  abbrev places : List ℕ
  places = range_with_len 0 n

  at-place : (i : ℕ) → i < n → get_or places i 0 ≡ i
  at-place i l = let e = get_or-range_with_len 0 n i 0 l in omega arith

  -- what `cases_from_all` says of the range, as the definition that the contract cites
  pub every-range : (r : Bool)
      → MatchBool r (AllWithin (λ i. f i ≡ true) places 0 (length places)) ((k : ℕ) × (k < length places) × HoldsAt (λ i. f i ≡ false) places k)
      → r ≡ every f n
  every-range true h =
      sym (every-all f n (λ i l. rw (at-place i l) at (h i 0 (omega arith) (omega (arith, length-range_with_len 0 n)))))
  every-range false (k, l, h) =
      let inside : k < n = omega (arith, length-range_with_len 0 n) in
      sym (every-fails f n k inside (rw (at-place k inside) at (h 0)))

-- the same against `list_all` of the range
pub all_range : (f : ℕ → Bool) (n : ℕ) → list_all f (range_with_len 0 n) ≡ every f n
all_range f n =
    every_list f f (range_with_len 0 n) 0 n (length-range_with_len 0 n)
    (λ i l. let e = get_or-range_with_len 0 n i 0 l in let same : get_or (range_with_len 0 n) i 0 ≡ i = omega arith in ap f same)
