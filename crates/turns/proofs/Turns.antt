-- What the text that was put at the front of a buffer makes of a step. Assumes nothing.
use mathlib.Core.Path.{◌≡◌, refl}
use mathlib.Core.List.{List, []}
use Prim.Native.Nat.{ℕ}
use native.Mathlib.Nat.{zero-add}
use native.Mathlib.Omega.{arith}
use lib.ListN.{length}
use Rattle.wire.specs.Fields.{put_at}
use Rattle.text.specs.Puts.{Put}
use Rattle.text.proofs.Puts.{nothing}
use Rattle.turns.specs.Steps.{Outcome, Steps}
use Rattle.turns.specs.declared.Turn.{Turn}

module _ {S : Type 0} {before : List ℕ} (o : Outcome S) where
  pub turned : {next : ℕ} {after : List ℕ} (r : Turn S) → r ≡ record { state = o.state; more = o.more; length = next }
      → Put before 0 o.text next after → Steps o r before after
  unfolding put_at
  turned r e put =
      rw e
      (record {
        state = refl;
        more = refl;
        size = omega (arith, put.place);
        bytes = rw (zero-add (length o.text)) at put.bytes;
      })

  -- a step without a text
  pub silent : (r : Turn S) → o.text ≡ [] → r ≡ record { state = o.state; more = o.more; length = 0 } → Steps o r before before
  silent r none e = turned r e (rw none (nothing before 0))
