use Rattle.std.proofs.Common.{rules, tests, [], length, get_or}
use Rattle.std.specs.Prelude.{None}
use Rattle.trace.proofs.Arrays.{from_fn_replicate}
use Rattle.kinds.specs.Kinds.{kind_of}
use Rattle.register.proofs.records.kinds.Goals as goal

pub returns : goal.returns
returns c =
    from_fn_replicate _ _ (λ i. kind_of (get_or (get_or c.args.units.now i []) 0 0)) c.from_fn.result None 64 (length c.args.units.now)
    c.requires c.from_fn.ensures.items (λ k y q l m. search (rules, tests))
