use Rattle.std.proofs.Common.{◌≡◌, ◌≤◌, ◌<◌, ◌^◌, arith, rules}
use Rattle.telemetry.specs.declared.Fields.{Fields}
use Rattle.triggers.specs.Triggers.{capability_of}
use Rattle.marks.specs.Measures.{measures_of}
use Rattle.marks.specs.declared.Measures.{Measures}
use Rattle.aggregates.proofs.view_of.Goals as goal

-- the rates of a line are no greater than its bids, which fit
rates-bid : (f : Fields) (m : Measures) → m ≡ measures_of f → (m.capability.up ≤ f.bid_up) × (m.capability.down ≤ f.bid_down)
unfolding measures_of capability_of
rates-bid f m e = rw e (omega arith, omega arith)

pub overflow_cast-result : goal.overflow_cast-result
overflow_cast-result c =
    let bid : c.args.line.fields.bid_up < 2 ^ 32 = search rules in
    omega (arith, (rates-bid _ _ c.args.line.measured).0)

pub overflow_cast-result-2 : goal.overflow_cast-result-2
overflow_cast-result-2 c =
    let bid : c.args.line.fields.bid_down < 2 ^ 32 = search rules in
    omega (arith, (rates-bid _ _ c.args.line.measured).1)
