use Rattle.std.proofs.Common.{sym, ap, ◌∙◌}
use Rattle.std.specs.List.{zip}
use Rattle.std.specs.FinMap.{find}
use Rattle.std.proofs.lemmas.Option.{same_Some}
use Rattle.hm_tree.specs.Names.{name_cmp}
use Rattle.hm_schema.specs.Values.{NodeValue}
use Rattle.hm_types_table.specs.Tables.{seat}
use Rattle.hm_types_table.proofs.looks.child.Goals as goal

pub returns : goal.returns
returns c n e =
    let is = same_Some (seat c.at.result.0.now c.at.result.1.now) n (sym c.at.ensures.node ∙ e) in
    c.beside.ensures ∙ (λ i. find name_cmp c.args.name.now (zip (c.deref.ensures.value i) (c.deref-2.ensures.value i)))
    ∙ ap (λ (n : NodeValue). find name_cmp c.args.name.now n.children) is
