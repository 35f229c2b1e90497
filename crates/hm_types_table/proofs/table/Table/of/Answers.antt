use Rattle.std.proofs.Common.{◌≡◌, ◌++◌, length, map, ap, ◌∙◌}
use Rattle.std.proofs.lemmas.List.{length-map}
use Rattle.hm_schema.specs.Values.{node_value}
use Rattle.hm_types_table.specs.Tables.{Nodes, shifted}
use Rattle.hm_types_table.proofs.Shifted.{shifted_zero}
use Rattle.hm_types_table.proofs.table.Table.of.Goals as goal

pub returns-clause-nodes : goal.returns-clause-nodes
returns-clause-nodes c =
    let one = map node_value c.args.first.now in
    let two = map node_value c.args.second.now in
    let first : c.add_nodes.new.self ≡ one = c.in_ok-add_nodes.ensures.nodes
    ∙ ap (λ (nodes : Nodes). nodes ++ map (shifted (length nodes)) one) c.new-seats.ensures.value ∙ shifted_zero one in
    c.in_ok-add_nodes-2.ensures.nodes ∙ ap (λ (nodes : Nodes). nodes ++ map (shifted (length nodes)) two) first
    ∙ ap (λ count. one ++ map (shifted count) two) (length-map c.args.first.now node_value)
