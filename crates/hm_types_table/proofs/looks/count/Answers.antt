use Rattle.std.proofs.Common.{rules, ◌≡◌, length, sym, ap, ◌∙◌}
use Rattle.std.proofs.lemmas.Option.{same_Some}
use Rattle.hm_schema.specs.Values.{NodeValue}
use Rattle.hm_types_table.specs.Tables.{seat}
use Rattle.hm_types_table.proofs.BesideNames.{zip_size}
use Rattle.hm_types_table.proofs.looks.count.Goals as goal

pub returns : goal.returns
returns c n e =
    let is = same_Some (seat c.at.result.0.now c.at.result.1.now) n (sym c.at.ensures.node ∙ e) in
    let len : c.len.result ≡ length c.at.result.1.now.next.items = search rules in
    len ∙ sym (zip_size c.at.result.0.now.names.items c.at.result.1.now.next.items c.at.ensures.count)
    ∙ ap (λ (n : NodeValue). length n.children) is
