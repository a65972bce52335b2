-- A step by the bytes that were read. Assumes nothing.
use mathlib.Core.Path.{◌≡◌, refl}
use mathlib.Core.Bool.{false}
use mathlib.Core.List.{List, [], ◌∷◌}
use Prim.Native.Nat.{ℕ}
use native.Mathlib.Omega.{arith}
use lib.ListN.{length}
use Rattle.turns.specs.Steps.{Steps}
use Rattle.turns.specs.declared.Turn.{Turn}
use Rattle.turns.proofs.Turns.{silent}
use Rattle.ledger.specs.declared.Ledger.{Ledger}
use Rattle.ledger_script.specs.Items.{item_of}
use Rattle.ledger_script.specs.Steps.{made_by, step_of}

pub step-item : (l : Ledger) (at : ℕ) (bytes : List ℕ) → (length bytes ≡ 0 → ⊥) → step_of l at bytes ≡ made_by l at (item_of bytes)
unfolding step_of
step-item l at [] e = absurd (e refl)
step-item l at (byte ∷ bytes) e = refl

pub step_end : (l : Ledger) (at : ℕ) (bytes out : List ℕ) (r : Turn Ledger) → length bytes ≡ 0
    → r ≡ record { state = l; more = false; length = 0 } → Steps (step_of l at bytes) r out out
unfolding step_of
step_end l at [] out r e is = silent (step_of l at []) r refl is
step_end l at (byte ∷ bytes) out r e is = absurd (omega arith)
