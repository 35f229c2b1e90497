use Rattle.std.proofs.Common.{rules, ◌<◌, length, map, slice_get, refl, sym, ap, subst, ◌∙◌}
use Rattle.std.proofs.lemmas.Option.{slice_get_read}
use Rattle.std.proofs.lemmas.Slice.Zip.{seconds-zip}
use Rattle.hm_graph.specs.declared.sameness.Vertex.{Vertex}
use Rattle.hm_schema.specs.declared.node.NodeId.{NodeId}
use Rattle.hm_types_table.specs.Tables.{seat}
use Rattle.hm_types_table.specs.Classes.{AreVertices, ends_left}
use Rattle.hm_types_table.proofs.BesideNames.{zip_size}
use Rattle.hm_types_table.proofs.NodeGraphs.{vertices_more}
use Rattle.hm_types_table.proofs.graph.graph_of.Goals as goal

pub edges_left-requires : goal.edges_left-requires
edges_left-requires c =
    let k = c.at.result.0.now in
    let v = c.at.result.1.now in
    let lt : c.loop-place.place < length c.args.outlines.now = search rules in
    let to = slice_get_read c.args.outlines.now _ c.loop-place.place c.index-outlines-place.result refl lt c.index-outlines-place.is in
    c.requires.sizes c.loop-place.place c.index-outlines-place.result to (seat k v) c.at.ensures.node
    ∙ zip_size k.names.items v.next.items c.at.ensures.count ∙ sym (ap length c.deref.ensures.value)

pub loop-place-preserved : goal.loop-place-preserved
loop-place-preserved c =
    let nodes = c.args.nodes.now in
    let k = c.at.result.0.now in
    let v = c.at.result.1.now in
    let graph = c.loop-place.graph.items in
    let o = c.index-outlines-place.result in
    let lt : c.loop-place.place < length c.args.outlines.now = search rules in
    let to = slice_get_read c.args.outlines.now _ c.loop-place.place o refl lt c.index-outlines-place.is in
    let new : Vertex = record { label = o.label; next = c.in_ok-next.next } in
    let next = c.deref.ensures.value ∙ sym (seconds-zip k.names.items v.next.items c.at.ensures.count) in
    record {
      size = search rules;
      vertices = subst (AreVertices nodes c.args.outlines.now) (sym c.in_ok-push.ensures.items)
          (vertices_more nodes c.args.outlines.now graph (seat k v) o new c.loop-place.invariant.vertices
          (ap (slice_get nodes) c.loop-place.invariant.size ∙ c.at.ensures.node)
          (ap (slice_get c.args.outlines.now) c.loop-place.invariant.size ∙ to)
          (record { label = refl; next = c.in_ok-next.ensures ∙ ap (λ l. map (λ (j : NodeId). j.place) (ends_left o l v.other)) next }));
    }
