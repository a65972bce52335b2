-- The days of months: the rule of the table, proved once over all of its entries, and a month's length from two of them. Assumes nothing.
use mathlib.Core.Path.{◌≡◌, refl}
use mathlib.Core.Bool.{Bool, true, false, cond, ◌&&◌, ◌||◌}
use mathlib.Core.List.{List, [], ◌∷◌}
use Prim.Native.Nat.{ℕ, zero, suc, ◌+◌, ◌-◌, ◌≤◌}
use native.Mathlib.Omega.{arith}
use borrow.Author.Tests.{eqb-true}
use lib.Dec.{eqb, leb}
use lib.ListN.{get_or}
use Rattle.std.specs.Int.{from_bool}
use Rattle.trace.specs.Sweeps.{every}
use Rattle.trace.proofs.Sweeps.{every-at}
use Rattle.trace.proofs.Tests.{and_l, and_r, chosen}
use Rattle.calendar.specs.Dates.{month_length, days_of_months, days_before}

-- ---- the table: "the days before each month"

-- as the code has it: 13 entries of a common year, and 13 of a leap year
abbrev pub row : Bool → List ℕ
row false = 0 ∷ 31 ∷ 59 ∷ 90 ∷ 120 ∷ 151 ∷ 181 ∷ 212 ∷ 243 ∷ 273 ∷ 304 ∷ 334 ∷ 365 ∷ []
row true = 0 ∷ 31 ∷ 60 ∷ 91 ∷ 121 ∷ 152 ∷ 182 ∷ 213 ∷ 244 ∷ 274 ∷ 305 ∷ 335 ∷ 366 ∷ []

-- each entry is what it should be, and at most 366
abbrev right : Bool → ℕ → Bool
right leap k = eqb (get_or (row leap) k 0) (days_of_months leap k) && leb (get_or (row leap) k 0) 366

all_right : (every (right false) 13 && every (right true) 13) ≡ true
unfolding every days_of_months month_length
all_right = refl

row-right : (leap : Bool) → every (right leap) 13 ≡ true
row-right false = and_l (every (right false) 13) (every (right true) 13) all_right
row-right true = and_r (every (right false) 13) (every (right true) 13) all_right

-- an entry, and as the code finds it: the row by the number of the `bool`
entry : (leap : Bool) (k : ℕ) → k ≤ 12 → get_or (row leap) k 0 ≡ days_of_months leap k
entry leap k most =
    let is = eqb (get_or (row leap) k 0) (days_of_months leap k) in
    eqb-true _ _ (and_l is (leb (get_or (row leap) k 0) 366) (every-at (right leap) 13 (row-right leap) k (omega arith)))

pub table-entry : (leap : Bool) (n k : ℕ) → n ≡ from_bool leap → k ≤ 12
    → get_or (get_or (row false ∷ row true ∷ []) n []) k 0 ≡ days_of_months leap k
table-entry false n k e most = rw e (entry false k most)
table-entry true n k e most = rw e (entry true k most)

-- ---- a month

-- the days through it are those before it and its own
pub through-month : (leap : Bool) (month : ℕ) → 1 ≤ month → days_of_months leap month ≡ days_before leap month + month_length leap month
unfolding days_of_months
through-month leap zero l = absurd (omega arith)
through-month leap (suc k) l = let here : suc k - 1 ≡ k = omega arith in rw here

-- no month has fewer days than 28, or more than 31
abbrev usual : ℕ → Type 0
usual days = (28 ≤ days) × (days ≤ 31)

pub length-within : (leap : Bool) (month : ℕ) → (28 ≤ month_length leap month) × (month_length leap month ≤ 31)
unfolding month_length
length-within leap month =
    chosen usual (eqb month 2) (cond leap 29 28) _ (chosen usual leap 29 28 (omega arith) (omega arith))
    (chosen usual (eqb month 4 || (eqb month 6 || (eqb month 9 || eqb month 11))) 30 31 (omega arith) (omega arith))
