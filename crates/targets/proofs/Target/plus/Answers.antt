use Rattle.std.proofs.Common.{◌≡◌, ◌≤◌, ◌∙◌, ap₂, to_z, of_z, w32, w64, FitsSigned, nat_abs, arith, rules}
use Rattle.std.proofs.lemmas.Int.{ints, to_z-of_z}
use Rattle.aggregates.specs.Aggregates.{add_signed}
use Rattle.aggregates.proofs.Small.{signed-size}
use Rattle.targets.specs.Walks.{add_member}
use Rattle.targets.proofs.Target.plus.Goals as goal
use Rattle.targets.proofs.Target.plus.Goals.{After-add_signed-sum}

-- the sum, as the local holds it
sum_is : (c : After-add_signed-sum) → c.add_signed-sum.result ≡ add_signed c.args.load c.args.self.target c.in-Some.line.target
sum_is c =
    let t : FitsSigned w32 c.args.self.target = search rules in
    let k : FitsSigned w32 c.in-Some.line.target = search rules in
    let e : to_z w64 (of_z w64 c.from.result) ≡ c.args.self.target = omega (arith, ints, c.from.ensures) in
    c.add_signed-sum.ensures ∙ ap₂ (add_signed c.args.load) e (to_z-of_z w32 _ k)

sum-small : (c : After-add_signed-sum) → nat_abs c.add_signed-sum.result ≤ 132000000
sum-small c =
    let line = rw c.in-Some.is at c.requires.1 in
    rw (sum_is c) (omega (arith, c.requires.0.target, line.target, signed-size c.args.load c.args.self.target c.in-Some.line.target))

pub overflow_cast-result : goal.overflow_cast-result
overflow_cast-result c = omega (arith, ints, sum-small (goal.at.overflow_cast-result c).After-add_signed-sum)

pub returns : goal.returns
unfolding add_member
returns c =
    let at = (goal.at.returns c).After-add_signed-sum in
    let sum : to_z w32 (of_z w32 (to_z w64 (of_z w64 c.add_signed-sum.result))) ≡ c.add_signed-sum.result =
    omega (arith, ints, sum-small at) in
    rw (c.in-Some.is, sum, sum_is at)
