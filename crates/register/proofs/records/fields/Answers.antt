use Rattle.std.proofs.Common.{rules, tests, [], length, get_or}
use Rattle.trace.proofs.Arrays.{from_fn_replicate}
use Rattle.register.proofs.records.fields.Goals as goal

pub returns : goal.returns
returns g c =
    from_fn_replicate _ _ (λ i. get_or (get_or c.args.records.now i []) c.args.at 0) c.from_fn.result 0 g.row.N (length c.args.records.now)
    c.requires.1 c.from_fn.ensures.items (λ k y q l m. search (rules, tests))
