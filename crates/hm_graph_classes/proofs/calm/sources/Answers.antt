use Rattle.std.proofs.Common.{rules, ◌≡◌, ◌<◌, length, slice_get, Some, refl, sym, ap, subst, ◌∙◌}
use Rattle.std.proofs.lemmas.Option.{slice_get_read}
use Rattle.hm_graph.specs.declared.sameness.Vertex.{Vertex}
use Rattle.hm_graph_classes.specs.Calm.{AreSources, ArePut}
use Rattle.hm_graph_classes.proofs.CalmVertices.{no_sources, sources_more}
use Rattle.hm_graph_classes.proofs.calm.sources.Goals as goal

pub loop-i-init : goal.loop-i-init
loop-i-init c = no_sources c.args.graph.now c.in_ok-lists.lists.items c.in_ok-lists.ensures.count c.in_ok-lists.ensures.empty

pub loop-i-preserved : goal.loop-i-preserved
loop-i-preserved c =
    let g = c.args.graph.now in
    let i = c.loop-i.i in
    let v = c.index-graph-i.result in
    let lt : i < length g = search rules in
    let at : slice_get g i ≡ Some v = slice_get_read g _ i v refl lt c.index-graph-i.is in
    sources_more g c.loop-i.lists.items c.put_all.new.lists.items i v c.loop-i.invariant at
    (subst (λ ns. ArePut c.loop-i.lists.items c.put_all.new.lists.items ns i) (c.deref.ensures.value ∙ ap (λ (v : Vertex). v.next.items) (sym c.index-graph-i.is))
    c.in_ok-put_all.ensures)

pub returns : goal.returns
returns c =
    let end : c.loop-i.i ≡ length c.args.graph.now = search rules in
    subst (λ n. AreSources c.args.graph.now n c.loop-i.lists.items) end c.loop-i.invariant
