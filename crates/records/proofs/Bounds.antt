-- A record's values, and what the tests of a day's bounds give. Assumes nothing.
use mathlib.Core.Path.{◌≡◌}
use mathlib.Core.Bool.{true, ◌&&◌}
use mathlib.Core.List.{List}
use Prim.Native.Nat.{ℕ, ◌≤◌, ◌<◌}
use native.Mathlib.Omega.{arith}
use borrow.Author.Tests.{leb-true}
use lib.IntN.{nat_abs}
use Rattle.trace.proofs.Sweeps.{every-at}
use Rattle.trace.proofs.Tests.{and_l, and_r}
use Rattle.signed.proofs.Sizes.{size-minus}
use Rattle.records.specs.Intervals.{interval_at, target_bounded, energy_bounded, interval_bounded, response_of}
use Rattle.records.specs.Records.{day_bounded, records_bounded}
use Rattle.records.specs.declared.Interval.{Interval}

-- ---- one interval

pub record Bounded (v : Interval) : Type 0 where
  pub target : v.target ≤ 2000000
  pub response : nat_abs (response_of v) ≤ 400000000

pub bounded : (v : Interval) → interval_bounded v ≡ true → Bounded v
unfolding interval_bounded
bounded v e =
    let target = target_bounded v.target in
    let baseline = energy_bounded v.baseline in
    let metered = energy_bounded v.metered in
    let energies = and_r target (baseline && metered) e in
    record {
      target = leb-true v.target 2000000 (and_l target (baseline && metered) e);
      response =
          omega (
            arith,
            size-minus v.baseline v.metered,
            leb-true (nat_abs v.baseline) 200000000 (and_l baseline metered energies),
            leb-true (nat_abs v.metered) 200000000 (and_r baseline metered energies),
          );
    }

-- ---- a day

pub bounded_at : (earlier : ℕ) (records : List ℕ) → day_bounded earlier records ≡ true → (i : ℕ) → i < 288
    → interval_bounded (interval_at records i) ≡ true
bounded_at earlier records e i l =
    every-at (λ j. interval_bounded (interval_at records j)) 288 (and_r (target_bounded earlier) (records_bounded records 288) e) i l
