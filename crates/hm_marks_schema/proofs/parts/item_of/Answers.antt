use Rattle.std.proofs.Common.{sym, ◌∙◌}
use Rattle.hm_marks.specs.FolderTrees.{folder_name}
use Rattle.hm_marks_schema.proofs.TreeParts.{has_edge, a_folder_below, a_link_below, one_name, address_is, told_same, told_other}
use Rattle.hm_marks_schema.proofs.parts.item_of.Goals as goal

pub edge-requires : goal.edge-requires
edge-requires c = has_edge c.args.tree.now c.requires

pub value_of-requires : goal.value_of-requires
value_of-requires c =
    one_name c.edge.result.1.now
    (a_link_below c.args.tree.now (c.edge.result.0.now, c.edge.result.1.now) c.requires c.edge.ensures
    (λ e. told_other c.text.result.now folder_name c.if-eq.ensures (c.text.ensures.value ∙ e))).address

pub returns-then-eq : goal.returns-then-eq
returns-then-eq c =
    a_folder_below c.args.tree.now (c.edge.result.0.now, c.edge.result.1.now) c.requires c.edge.ensures
    (sym c.text.ensures.value ∙ told_same c.text.result.now folder_name c.if-eq.ensures)

pub returns-else-eq : goal.returns-else-eq
returns-else-eq c =
    address_is c.args.tree.now c.edge.result.1.now c.value_of.result.now
    (a_link_below c.args.tree.now (c.edge.result.0.now, c.edge.result.1.now) c.requires c.edge.ensures
    (λ e. told_other c.text.result.now folder_name c.if-eq.ensures (c.text.ensures.value ∙ e))) c.value_of.ensures
