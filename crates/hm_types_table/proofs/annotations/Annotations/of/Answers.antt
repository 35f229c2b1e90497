use Rattle.std.proofs.Common.{rules, ◌≡◌, ◌<◌, length, sym, subst, ◌∙◌}
use Rattle.hm_graph.specs.Same.{IsClosed}
use Rattle.hm_graph_classes.specs.Reduced.{AreClasses}
use Rattle.hm_types_table.specs.Classes.{HaveSizes, AreVertices}
use Rattle.hm_types_table.proofs.NodeGraphs.{have_sizes, graph_closed, classed_new}
use Rattle.hm_types_table.proofs.annotations.Annotations.of.Goals as goal

pub graph_of-requires-clause-sizes : goal.graph_of-requires-clause-sizes
graph_of-requires-clause-sizes c = subst (HaveSizes c.args.nodes.now) (sym c.deref.ensures.value)
    (have_sizes c.outlines_of.new.numbers c.args.nodes.now c.in_ok-outlines.outlines.items c.in_ok-outlines.ensures.outlines)

pub of-requires : goal.of-requires
of-requires c =
    let nodes = c.args.nodes.now in
    let outlines = c.in_ok-outlines.outlines.items in
    let graph = c.in_ok-graph.graph.items in
    subst IsClosed (sym c.deref-2.ensures.value)
    (graph_closed c.outlines_of.new.numbers nodes outlines graph c.requires c.in_ok-outlines.ensures.outlines
    (subst (λ l. AreVertices nodes l graph) c.deref.ensures.value c.in_ok-graph.ensures.vertices) c.in_ok-outlines.ensures.size
    c.in_ok-graph.ensures.size)

pub returns : goal.returns
returns c =
    let nodes = c.args.nodes.now in
    let outlines = c.in_ok-outlines.outlines.items in
    let graph = c.in_ok-graph.graph.items in
    let count : c.len.result ≡ length outlines = search rules in
    classed_new nodes (record {
      numbers = c.outlines_of.new.numbers;
      outlines = c.in_ok-outlines.outlines;
      seen = c.in_ok-seen.seen;
      reduced = c.in_ok-reduced.reduced;
      classes = c.in_ok-reduced.classes;
    }) graph c.requires c.in_ok-outlines.ensures.numbering c.in_ok-outlines.ensures.outlines
    (subst (λ l. AreVertices nodes l graph) c.deref.ensures.value c.in_ok-graph.ensures.vertices) c.in_ok-outlines.ensures.size
    c.in_ok-graph.ensures.size c.in_ok-reduced.ensures.reduced
    (subst (λ g. AreClasses g c.in_ok-reduced.reduced c.in_ok-reduced.classes.items) c.deref-2.ensures.value c.in_ok-reduced.ensures.classes)
    (c.in_ok-seen.ensures.size ∙ count)
    (λ i lt. c.in_ok-seen.ensures.places i (subst (λ n. i < n) (sym count) lt))
