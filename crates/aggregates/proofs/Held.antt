-- Sums as locals hold them. Assumes nothing.
use Prim.Native.Nat.{ℕ, ◌<◌, ◌^◌}
use Rattle.marks.proofs.Held.{Held, held}
use Rattle.aggregates.specs.Sizes.{SmallPresent, SmallKeptSums}
use Rattle.aggregates.specs.declared.Present.{Present}
use Rattle.aggregates.specs.declared.KeptSums.{KeptSums}

pub held-present : {n : ℕ} {s : Present} → SmallPresent n s → n < 2 ^ 63 → Held n s.target × Held n s.power
held-present s l = (held _ s.target l, held _ s.power l)

pub held_kept : {n : ℕ} {s : KeptSums} → SmallKeptSums n s → n < 2 ^ 63 → Held n s.target × Held n s.raise × Held n s.lower
held_kept s l = (held _ s.target l, held _ s.raise l, held _ s.lower l)
