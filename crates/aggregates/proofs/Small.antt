-- How large the sums over members are, and the numbers of an aggregate's basis. Assumes nothing.
use mathlib.Core.Bool.{Bool, true, false, not}
use Prim.Native.Nat.{ℕ, ◌+◌, ◌≤◌}
use native.Mathlib.Omega.{arith}
use lib.IntN.{ℤ, pos, nat_abs}
use Rattle.std.specs.Prelude.{Option, Some, None, IfSome}
use Rattle.signed.proofs.Sizes.{size-plus, size-minus}
use Rattle.kinds.specs.declared.Kind.{Kind}
use Rattle.telemetry.specs.Lines.{power_of}
use Rattle.telemetry.specs.declared.Fields.{Fields}
use Rattle.triggers.specs.Triggers.{opposite, add_capability}
use Rattle.triggers.specs.Bounds.{SmallCapability}
use Rattle.marks.specs.Bounds.{SmallFields, SmallLine, SmallKept, SmallSight, SmallBasis}
use Rattle.triggers.specs.declared.Capability.{Capability}
use Rattle.marks.specs.declared.Kept.{Kept}
use Rattle.marks.specs.declared.Sight.{Sight}
use Rattle.marks.proofs.Small.{power_small, capability-small, rate-small}
use Rattle.aggregates.specs.Aggregates.{add_signed, add_kept, add_unreadable, no_sums, way_of, aggregate_basis}
use Rattle.aggregates.specs.Sizes.{SmallKeptSums, SmallSums}
use Rattle.aggregates.specs.Views.{readable_view, line_view, view_of, SmallView}
use Rattle.aggregates.specs.Views.{view_capability, present_with, kept_with, add_readable_view, add_view}
use Rattle.aggregates.specs.declared.KeptSums.{KeptSums}
use Rattle.aggregates.specs.declared.Sums.{Sums}
use Rattle.aggregates.specs.declared.View.{View}

-- ---- a member as the sums take it

pub readable-small : (kind : Option Kind) (f : Fields) (k : Option Kept) → SmallFields f → SmallKept k → SmallView (readable_view kind f k)
unfolding readable_view
readable-small kind f k s t =
    let unit = capability-small s in
    record {
      target = s.target;
      power = power_small (power_of f);
      availability = s.availability;
      up = unit.up;
      down = unit.down;
      kept = t;
    }

line-view-small : (kind : Option Kind) (l : Option Fields) (k : Option Kept) → SmallLine l → SmallKept k
    → IfSome (line_view kind l k) (λ v. SmallView v)
line-view-small kind (Some f) k s t = readable-small kind f k s t
line-view-small kind None k s t = tt

pub view-small : (v : Sight) → SmallSight v → IfSome (view_of v) (λ w. SmallView w)
unfolding view_of
view-small v s = line-view-small v.kind v.line v.kept s.line s.kept

-- ---- sums over members: one more, and each is at most 2,000,000 larger

pub signed-size : (load : Bool) (a z : ℤ) → nat_abs (add_signed load a z) ≤ nat_abs a + nat_abs z
unfolding add_signed
signed-size true a z = size-minus a z
signed-size false a z = size-plus a z

capability-more : {n : ℕ} {a c : Capability} (counts : Bool)
    → SmallCapability n a → SmallCapability 2000000 c → SmallCapability (n + 2000000) (add_capability counts a c)
unfolding add_capability
capability-more true s t = omega arith
capability-more false s t = omega arith

pub wider : {m n : ℕ} {s : Sums} → m ≤ n → SmallSums m s → SmallSums n s
wider h s = omega arith

pub view-capability-small : (v : View) → SmallView v → SmallCapability 2000000 (view_capability v)
unfolding view_capability
view-capability-small v s = omega arith

kept-more : {n : ℕ} (load : Bool) (s : KeptSums) (k : Option Kept) → SmallKeptSums n s → SmallKept k
    → SmallKeptSums (n + 2000000) (add_kept load s k)
unfolding add_kept
kept-more load s None b t = omega arith
kept-more load s (Some k) b t =
    omega (
      arith,
      signed-size load s.target k.target,
      size-plus s.raise (pos k.raise),
      size-plus s.lower (pos k.lower),
    )

readable-more : {n : ℕ} (s : Sums) (v : View) → SmallSums n s → SmallView v → SmallSums (n + 2000000) (add_readable_view s v)
unfolding add_readable_view present_with kept_with
readable-more {n} s v b c =
    let unit = view-capability-small v c in
    record {
      present =
          omega (arith, b.present, c, signed-size v.load s.present.target v.target, signed-size v.load s.present.power v.power);
      kept = kept-more v.load s.kept v.kept b.kept c.kept;
      supply = capability-more (not v.load) b.supply unit;
      loads = capability-more v.load b.loads unit;
    }

pub view-more : {n : ℕ} (s : Sums) (v : Option View) → SmallSums n s → IfSome v (λ w. SmallView w)
    → SmallSums (n + 2000000) (add_view s v)
unfolding add_view add_unreadable
view-more s (Some v) b c = readable-more s v b c
view-more s None b c = omega (arith, b)

pub no-sums-small : SmallSums 0 no_sums
no-sums-small = omega arith

pub aggregate-small : (s : Sums) → SmallSums 130000000 s → SmallBasis (aggregate_basis s)
unfolding aggregate_basis
aggregate-small s b = omega (arith, rate-small (way_of s) b.supply, rate-small (opposite (way_of s)) b.loads)

pub ruleset sizes = (view-capability-small, aggregate-small)
