use Rattle.std.proofs.Common.{rules, ◌≡◌, map, sym, ap, ◌∙◌}
use Rattle.std.proofs.lemmas.Option.{same_Some}
use Rattle.std.proofs.lemmas.Slice.Zip.{seconds-zip}
use Rattle.hm_tree.specs.Names.{Name}
use Rattle.hm_schema.specs.declared.node.NodeId.{NodeId}
use Rattle.hm_schema.specs.Values.{NodeValue}
use Rattle.hm_types_table.specs.Tables.{seat}
use Rattle.hm_types_table.proofs.looks.targets.Goals as goal

pub returns : goal.returns
returns c n e =
    let is = same_Some (seat c.at.result.0.now c.at.result.1.now) n (sym c.at.ensures.node ∙ e) in
    let copied : c.extend_from_slice.new.self.items ≡ c.at.result.1.now.next.items = search rules in
    copied ∙ sym (seconds-zip c.at.result.0.now.names.items c.at.result.1.now.next.items c.at.ensures.count)
    ∙ ap (λ (n : NodeValue). map (λ (c : Name × NodeId). c.1) n.children) is
