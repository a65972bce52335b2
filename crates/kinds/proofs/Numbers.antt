-- A kind and its number. Assumes nothing.
use Rattle.std.proofs.Common.{◌≡◌, refl, ℕ, zero, suc, ◌<◌, ◌&&◌, Option, Some, None, leb, eqb, arith}
use Rattle.std.proofs.lemmas.Bool.{ne_eqb, lt-leb, le-leb}
use Rattle.std.specs.Option.{is_some}
use Rattle.kinds.specs.declared.Kind.{Kind}
use Rattle.kinds.specs.declared.Kind.TheVariants.{Generating, Load, Bidirectional, SemiScheduled}
use Rattle.kinds.specs.Kinds.{kind_of, kind_number, is_semi_scheduled}

-- a kind's number gives that kind
pub kind_of-number : (k : Kind) → kind_of (kind_number k) ≡ Some k
unfolding kind_of kind_number
kind_of-number Generating = refl
kind_of-number Load = refl
kind_of-number Bidirectional = refl
kind_of-number SemiScheduled = refl

-- 5 and above
pub kind_of-past : (n : ℕ) → 4 < n → kind_of n ≡ None
unfolding kind_of
kind_of-past n h =
    rw (ne_eqb n 1 (λ e. omega arith), ne_eqb n 2 (λ e. omega arith), ne_eqb n 3 (λ e. omega arith), ne_eqb n 4 (λ e. omega arith)) refl

-- what holds of each kind's number with that kind, and of every other number with none, holds of a number with its kind
pub by_number : (P : ℕ → Option Kind → Type 0) → P 0 None → P 1 (Some Generating) → P 2 (Some Load) → P 3 (Some Bidirectional)
    → P 4 (Some SemiScheduled) → ((n : ℕ) → 4 < n → P n None) → (n : ℕ) → P n (kind_of n)
unfolding kind_of
by_number P none one two three four more zero = none
by_number P none one two three four more (suc zero) = one
by_number P none one two three four more (suc (suc zero)) = two
by_number P none one two three four more (suc (suc (suc zero))) = three
by_number P none one two three four more (suc (suc (suc (suc zero)))) = four
by_number P none one two three four more (suc (suc (suc (suc (suc n))))) =
    let m = suc (suc (suc (suc (suc n)))) in
    let h : 4 < m = omega arith in
    rw (kind_of-past m h) (more m h)

-- a kind that a number gives has that number
pub kind_number-of : (n : ℕ) (k : Kind) → kind_of n ≡ Some k → kind_number k ≡ n
unfolding kind_number
kind_number-of n k =
    by_number (λ n o. o ≡ Some k → kind_number k ≡ n) (λ e. cc) (λ e. cc) (λ e. cc) (λ e. cc) (λ e. cc) (λ n l e. cc) n

-- the numbers that are listed are 1 to 4
pub kind-listed : (n : ℕ) → is_some (kind_of n) ≡ (leb 1 n && leb n 4)
kind-listed =
    by_number (λ n o. is_some o ≡ (leb 1 n && leb n 4)) refl refl refl refl refl (λ n h. rw (lt-leb n 4 h, le-leb 1 n (omega arith)) refl)

pub semi_scheduled-number : (n : ℕ) → is_semi_scheduled (kind_of n) ≡ eqb n 4
semi_scheduled-number =
    by_number (λ n o. is_semi_scheduled o ≡ eqb n 4) refl refl refl refl refl (λ n h. rw (ne_eqb n 4 (λ e. omega arith)) refl)
