use Rattle.std.proofs.Common.{sym, ap, ◌∙◌, subst, ◌+◌, List, map}
use Rattle.std.proofs.lemmas.List.{map_push}
use Rattle.hm_schema.specs.Values.{node_value}
use Rattle.hm_schema_lines.specs.Entries.{EntryValue, entry_value, entry_values}
use Rattle.hm_schema_lines.specs.Building.{id_in, IsBuilt, AreBuilt}
use Rattle.hm_schema_lines.proofs.Made.{entry_at}
use Rattle.hm_schema_lines.proofs.NodesOf.{next_line, next_node, behind_is}
use Rattle.hm_schema_lines.proofs.build.build_declared.Goals as goal
use Rattle.hm_schema_lines.proofs.build.build_declared.Goals.{then-begins_node+in_ok-build_node+in_ok-push, else-begins_node}

pub loop-place-preserved : goal.loop-place-preserved
loop-place-preserved c =
    let id = id_in c.args.declared.now c.count_nodes-count.result in
    let es = entry_values c.args.entries.now in
    let place = c.loop-place.place in
    let nodes = map node_value c.loop-place.nodes.items in
    let entry = entry_value c.index-entries-place.result in
    let at = entry_at c.args.entries.now place c.index-entries-place.result c.loop-place-test.true c.index-entries-place.is in
    elim c.if-begins_node.branch [
      | then-begins_node+in_ok-build_node+in_ok-push w ↦
          let node = w.in_ok-build_node.field-0 in
          let lines = w.lines_of_node-lines.ensures ∙ behind_is c.args.entries.now place in
          let built = subst (λ (z : List EntryValue). IsBuilt id z (node_value node)) lines w.in_ok-build_node.ensures in
          let more = next_node id es nodes place entry at c.loop-place.invariant (sym c.begins_node.ensures ∙ w.if-begins_node.true)
          (node_value node) built in
          subst (AreBuilt id es (place + 1))
          (sym (ap (λ v. map node_value v.items) w.nodes-is ∙ ap (map node_value) w.in_ok-push.ensures.items
          ∙ map_push node_value c.loop-place.nodes.items node)) more
      | else-begins_node w ↦
          let same = next_line id es nodes place entry at c.loop-place.invariant (sym c.begins_node.ensures ∙ w.if-begins_node.false) in
          subst (AreBuilt id es (place + 1)) (sym (ap (λ v. map node_value v.items) w.nodes-is)) same
    ]
