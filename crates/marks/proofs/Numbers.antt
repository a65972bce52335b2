-- Regulation sides by the rules' numbers of kinds. Assumes nothing.
use Rattle.std.proofs.Common.{◌≡◌, refl, ℕ, cond, pos, arith}
use Rattle.std.proofs.lemmas.Bool.{ne_eqb}
use Rattle.std.specs.Prelude.{eqb}
use Rattle.kinds.specs.Kinds.{kind_of}
use Rattle.kinds.proofs.Numbers.{by_number}
use Rattle.marks.specs.Assessments.{up_of, down_of}
use Rattle.marks.specs.declared.Kept.{Kept}

-- "for a load up = FCL and down = FCR", and up = FCR and down = FCL for every other number
pub up-numbers : (k : Kept) (n : ℕ) → up_of (kind_of n) k ≡ cond (eqb n 2) (pos k.lower) (pos k.raise)
up-numbers k =
    by_number (λ n kind. up_of kind k ≡ cond (eqb n 2) (pos k.lower) (pos k.raise)) refl refl refl refl refl
    (λ n h. rw (ne_eqb n 2 (λ e. omega arith)) refl)

pub down-numbers : (k : Kept) (n : ℕ) → down_of (kind_of n) k ≡ cond (eqb n 2) (pos k.raise) (pos k.lower)
down-numbers k =
    by_number (λ n kind. down_of kind k ≡ cond (eqb n 2) (pos k.raise) (pos k.lower)) refl refl refl refl refl
    (λ n h. rw (ne_eqb n 2 (λ e. omega arith)) refl)
