use Rattle.std.proofs.Common.{◌≡◌, Some, rules, tests}
use Rattle.std.specs.Prelude.{codes}
use Rattle.std.proofs.lemmas.Iterator.{cases_from_any, YieldsList-from_slice}
use Rattle.hm_schema_lines.specs.Entries.{entry_value}
use Rattle.hm_schema_lines.specs.Nodes.{named_by}
use Rattle.hm_schema_lines.proofs.NodesOf.{named_by_line}
use Rattle.hm_schema_lines.proofs.build.is_named_by_lines.Goals as goal

pub returns : goal.returns
returns c =
    let xs = c.args.entries.now in
    let by_call = cases_from_any _ _ _ (λ e. named_by (entry_value e) ≡ Some (codes "Empty"))
    (λ e. ¬ (named_by (entry_value e) ≡ Some (codes "Empty"))) c.any.ensures.ran (YieldsList-from_slice xs cc)
    (λ x q k. search (rules, tests)) (λ x q k. search (rules, tests)) in
    named_by_line xs c.any.result by_call
