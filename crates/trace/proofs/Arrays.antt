-- What `array::from_fn` makes: a list of what its closure gives at each index. Assumes nothing.
use Rattle.std.proofs.Common.{◌≡◌, refl, sym, ap, ◌∙◌, cond, ltb, replicate, ℕ, zero, suc, ◌+◌, ◌≤◌, ◌<◌, List, length, get_or, arith}
use Rattle.std.proofs.lemmas.List.{ext_get_or, length-replicate}
use Rattle.std.specs.Array.{IsFromFnResult, IsFromFnResultFrom}
use Rattle.trace.specs.Sweeps.{sweep}
use Rattle.trace.specs.Lists.{below}
use Rattle.trace.proofs.Sweeps.{length-sweep, sweep-below, below_or_not, replicate-same}
use denote.Param.Members.{Mut, Called}
use mathlib.Core.Logic.{⊎_elim}

-- a list that has the new entries below k, and those of xs from there on
pub sweep_ext : {A : Type 0} (h : ℕ → A) (k : ℕ) (xs ys : List A) (d : A) → length ys ≡ length xs → k ≤ length xs
    → ((i : ℕ) → i < length xs → get_or ys i d ≡ below k h (λ j. get_or xs j d) i) → ys ≡ sweep h k xs
sweep_ext h k xs ys d long fits at =
    ext_get_or d ys (sweep h k xs) (long ∙ sym (length-sweep h k xs))
    (λ i l. at i (omega (arith, long)) ∙ sym (sweep-below h k xs d fits i))

module _ {F B : Type 0} (g : Mut F (ℕ × Unit {0}) B) (f : F) (h : ℕ → B) (ys : List B) (d : B) (n : ℕ) where
  made : (i m : ℕ) (p : F) → p ≡ f → i + m ≤ n → IsFromFnResultFrom g p ys i m
      → ((k : ℕ) (y : B) (q : F) → k < n → Called g f (k, tt) y q → (q ≡ f) × (y ≡ h k)) → (k : ℕ) → i ≤ k → k < i + m → get_or ys k d ≡ h k
  made i zero p e t m c k a b = absurd (omega arith)
  made i (suc m) p e t (q, y, (own, is), called, rest) c k a b =
      let said = c i y q (omega arith) (rw e at called) in
      ⊎_elim
      (λ (l : i < k). made (i + 1) m q said.0 (omega arith) rest c k (omega arith) (omega arith))
      (λ (l : k ≤ i). let same : k ≡ i = omega arith in rw same (is d ∙ said.1))
      (below_or_not i k)

  -- `array::from_fn(closure)`, where the closure gives h: what stands at an index
  pub from_fn_at : IsFromFnResult g f ys n → ((k : ℕ) (y : B) (q : F) → k < n → Called g f (k, tt) y q → (q ≡ f) × (y ≡ h k))
      → (k : ℕ) → k < n → get_or ys k d ≡ h k
  from_fn_at r c k l = made 0 n f refl (omega arith) r.each c k (omega arith) (omega arith)

-- the whole, where the closure gives h below a count and what stood there before from the count on
pub from_fn_below : {F B : Type 0} (g : Mut F (ℕ × Unit {0}) B) (f : F) (h : ℕ → B) (ys : List B) (d : B) (n count : ℕ) (xs : List B)
    → count ≤ n → length xs ≡ n → IsFromFnResult g f ys n
    → ((k : ℕ) (y : B) (q : F) → k < n → Called g f (k, tt) y q → (q ≡ f) × (y ≡ below count h (λ j. get_or xs j d) k)) → ys ≡ sweep h count xs
from_fn_below g f h ys d n count xs fits long r c =
    sweep_ext h count xs ys d (r.long ∙ sym long) (omega (arith, long))
    (λ i l. from_fn_at g f (below count h (λ j. get_or xs j d)) ys d n r c i (omega (arith, long)))

-- the same in the place of one value everywhere
pub from_fn_replicate : {F B : Type 0} (g : Mut F (ℕ × Unit {0}) B) (f : F) (h : ℕ → B) (ys : List B) (d : B) (n count : ℕ)
    → count ≤ n → IsFromFnResult g f ys n
    → ((k : ℕ) (y : B) (q : F) → k < n → Called g f (k, tt) y q → (q ≡ f) × (y ≡ cond (ltb k count) (h k) d)) → ys ≡ sweep h count (replicate n d)
from_fn_replicate g f h ys d n count fits r c =
    from_fn_below g f h ys d n count (replicate n d) fits (length-replicate n d) r
    (λ k y q l m. let said = c k y q l m in (said.0, said.1 ∙ ap (cond (ltb k count) (h k)) (sym (replicate-same n d k))))
