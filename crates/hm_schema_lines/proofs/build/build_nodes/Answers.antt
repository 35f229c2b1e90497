use Rattle.std.proofs.Common.{true≢false, sym, ap, ◌∙◌, subst, map, count_by, length, ◌∷◌, [], ◌++◌}
use Rattle.std.proofs.lemmas.List.{length-map, map_push}
use Rattle.hm_schema.specs.Values.{NodeValue, node_value}
use Rattle.hm_schema_lines.specs.Entries.{entry_value, entry_values}
use Rattle.hm_schema_lines.specs.BadLines.{begins_node}
use Rattle.hm_schema_lines.specs.Nodes.{AreNodesOf, NamesEmpty}
use Rattle.hm_schema_lines.specs.Building.{id_in}
use Rattle.hm_schema_lines.proofs.Named.{placed}
use Rattle.hm_schema_lines.proofs.NodesOf.{with_empty, without_empty}
use Rattle.hm_schema_lines.proofs.build.build_nodes.Goals as goal
use Rattle.hm_schema_lines.proofs.build.build_nodes.Goals.{then-is_empty_named+in_ok-empty_node+in_ok-push, else-is_empty_named}

pub returns : goal.returns
returns c =
    let xs = c.args.entries.now in
    let es = entry_values xs in
    let own = c.args.own.now in
    let sound = c.requires.sound in
    let id = id_in c.args.declared.now (count_by begins_node es) in
    let places = placed es c.args.declared.now c.requires.declared sound in
    let nodes = c.in_ok-nodes.nodes.items in
    let all = sym (length-map xs entry_value) in
    elim c.if-is_empty_named.branch [
      | then-is_empty_named+in_ok-empty_node+in_ok-push w ↦
          let node = w.in_ok-empty_node.field-0 in
          let more = with_empty es sound id places (map node_value nodes) (length xs) all c.in_ok-nodes.ensures own
          (c.is_empty_named.ensures.0 w.if-is_empty_named.true) in
          subst (AreNodesOf es own)
          (sym (ap (λ v. map node_value v.items) w.nodes-is ∙ ap (map node_value) w.in_ok-push.ensures.items ∙ map_push node_value nodes node
          ∙ ap (λ (n : NodeValue). map node_value nodes ++ n ∷ []) w.in_ok-empty_node.ensures))
          more
      | else-is_empty_named w ↦
          let not_named = λ (named : NamesEmpty es own). true≢false (sym (c.is_empty_named.ensures.1 named) ∙ w.if-is_empty_named.false) in
          let same = without_empty es sound id places (map node_value nodes) (length xs) all c.in_ok-nodes.ensures own not_named in
          subst (AreNodesOf es own) (sym (ap (λ v. map node_value v.items) w.nodes-is)) same
    ]
