use Rattle.std.proofs.Common.{rules, ◌≡◌, ◌<◌, ◌≤◌, ◌+◌, ◌^◌, ℕ, List, Some, map, length, get_or, slice_get, refl, sym, ap, subst, ◌∙◌, arith}
use Rattle.std.proofs.lemmas.List.{get_or_default, length-map}
use Rattle.std.proofs.lemmas.Option.{slice_get-map, slice_get_read, slice_get_within}
use Rattle.std.specs.Option.{option_map}
use denote.Ref.{Bor}
use Rattle.hm_graph.specs.declared.sameness.Vertex.{Vertex}
use Rattle.hm_schema.specs.declared.node.Node.{Node}
use Rattle.hm_schema.specs.Values.{NodeValue, node_value}
use Rattle.hm_schema.specs.Tidied.{tidied}
use Rattle.hm_schema_same.specs.JointGraphs.{LeadBelow, edges_from}
use Rattle.hm_schema_same.proofs.JointGraphs.{AreVertices, vertex_more}
use Rattle.hm_schema_same.proofs.sameness.vertices.Goals as goal

abbrev value : Bor Node → NodeValue
value node = node_value node.now

-- the node of a reference that is read
node_read : (nodes : List (Bor Node)) (i : ℕ) (node : Bor Node) → i < length nodes → node ≡ get_or nodes i node
    → slice_get (map value nodes) i ≡ Some (value node)
node_read nodes i node lt is = slice_get-map value nodes i ∙ ap (option_map value) (slice_get_read nodes _ i node refl lt is)

pub edges-requires : goal.edges-requires
edges-requires c =
    let lt : c.loop-i.i < length c.args.nodes.now = search rules in
    subst (λ first. LeadBelow (2 ^ 64) first (tidied (value c.index-nodes-i.result))) (sym c.begin_of.ensures)
    (c.requires.edges c.loop-i.i (value c.index-nodes-i.result) (node_read c.args.nodes.now c.loop-i.i c.index-nodes-i.result lt c.index-nodes-i.is))

pub loop-i-preserved : goal.loop-i-preserved
loop-i-preserved c =
    let i = c.loop-i.i in
    let lt : i < length c.args.nodes.now = search rules in
    let inside : i < length c.args.labels.now = omega (arith, c.requires.labels) in
    let label = get_or c.args.labels.now i 0 in
    let vertex : Vertex = record { label = label; next = c.in_ok-next.next } in
    let nodes = map value c.args.nodes.now in
    subst (AreVertices nodes c.args.labels.now c.args.count (i + 1)) (sym c.in_ok-push.ensures.items)
    (vertex_more nodes c.args.labels.now c.args.count i c.loop-i.graph.items vertex (value c.index-nodes-i.result) c.loop-i.invariant
    (node_read c.args.nodes.now i c.index-nodes-i.result lt c.index-nodes-i.is)
    (slice_get_read c.args.labels.now _ i label refl inside (get_or_default c.args.labels.now i 0 label inside))
    (c.in_ok-next.ensures ∙ ap (λ first. edges_from first (tidied (value c.index-nodes-i.result))) c.begin_of.ensures))

pub returns-clause-vertices : goal.returns-clause-vertices
returns-clause-vertices c i n at =
    let nodes = map value c.args.nodes.now in
    let lt : i < length nodes = slice_get_within nodes i n at in
    let end : length c.args.nodes.now ≤ c.loop-i.i = search rules in
    c.loop-i.invariant.each i n (omega (arith, lt, length-map c.args.nodes.now value, end)) at
