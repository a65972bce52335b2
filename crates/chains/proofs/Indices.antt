-- What indices in range give at each index. Assumes nothing.
use mathlib.Core.Path.{◌≡◌, refl}
use mathlib.Core.Bool.{Bool, true}
use Prim.Native.Nat.{ℕ, ◌≤◌, ◌<◌}
use borrow.Author.Tests.{leb-true}
use lib.Dec.{leb}
use lib.ListN.{length, get_or, take}
use Rattle.std.specs.List.{list_all}
use Rattle.trace.specs.Sweeps.{every}
use Rattle.trace.proofs.Sweeps.{every-at, every_take}
use Rattle.trace.proofs.Tests.{and_l, and_r}
use Rattle.chains.specs.declared.Chains.{Chains}
use Rattle.chains.specs.Rules.{next_in, next_at, head_in, head_at, indices_in}

-- the test of the first entries is that of each index
pub nexts_tested : (c : Chains) → c.units ≤ length c.next → list_all (next_in c.units) (take c.units c.next) ≡ every (next_at c.units c.next) c.units
nexts_tested c h = every_take (next_in c.units) (next_at c.units c.next) c.next 0 c.units h (λ i l. refl)

pub heads_tested : (c : Chains) → c.aggregates ≤ length c.heads
    → list_all (head_in c.units) (take c.aggregates c.heads) ≡ every (head_at c.units c.heads) c.aggregates
heads_tested c h = every_take (head_in c.units) (head_at c.units c.heads) c.heads 0 c.aggregates h (λ i l. refl)

module _ (c : Chains) (inside : indices_in c ≡ true) where
  abbrev nexts : ℕ → Bool
  nexts = next_at c.units c.next

  abbrev heads : ℕ → Bool
  heads = head_at c.units c.heads

  pub next-inside : (i : ℕ) → i < c.units → get_or c.next i 0 ≤ c.units
  unfolding indices_in
  next-inside i l = leb-true _ _ (every-at nexts c.units (and_l (every nexts c.units) (every heads c.aggregates) inside) i l)

  head-test : (j : ℕ) → j < c.aggregates → heads j ≡ true
  unfolding indices_in
  head-test j l = every-at heads c.aggregates (and_r (every nexts c.units) (every heads c.aggregates) inside) j l

  module _ (j : ℕ) (l : j < c.aggregates) where
    abbrev head : ℕ
    head = get_or c.heads j 0

    pub head-least : 1 ≤ get_or c.heads j 0
    head-least = leb-true 1 head (and_l (leb 1 head) (leb head c.units) (head-test j l))

    pub head-inside : get_or c.heads j 0 ≤ c.units
    head-inside = leb-true head c.units (and_r (leb 1 head) (leb head c.units) (head-test j l))
