use Rattle.std.proofs.Common.{◌≡◌, ◌+◌, ◌++◌, ◌≤◌, ◌^◌, ℕ, List, IsTrue, ◌↔◌, Some, map, length, slice_get, sym, ap, subst, ◌∙◌, arith, length-append}
use Rattle.std.proofs.lemmas.List.{length-map}
use Rattle.std.proofs.lemmas.Result.{IfOk-weaker}
use denote.Ref.{Bor}
use Rattle.hm_graph.specs.Same.{Graph, AreBisimilar}
use Rattle.hm_schema.specs.declared.node.Node.{Node}
use Rattle.hm_schema.specs.declared.node.NodeId.{NodeId}
use Rattle.hm_schema.specs.Tidied.{tidied}
use Rattle.hm_schema.specs.Values.{NodeValue, SchemaValue, node_value}
use Rattle.hm_schema.specs.WellFormed.{IsWellFormed}
use Rattle.hm_schema.specs.Sameness.{AreSame}
use Rattle.hm_schema.specs.Labels.{AreLabels}
use Rattle.hm_types_forms.specs.Forms.{form}
use Rattle.hm_types_forms.specs.SameForms.{IsSame}
use Rattle.hm_types_forms.proofs.SameSchemas.{same_forms}
use Rattle.hm_schema_same.specs.JointGraphs.{IsVertexOf, LeadBelow, begins}
use Rattle.hm_schema_same.proofs.JointEdges.{lead_below}
use Rattle.hm_schema_same.proofs.JointSameness.{IsJointGraph, joint_closed, same_from_graph, graph_from_same}
use Rattle.hm_schema_same.proofs.sameness.same.Goals as goal

abbrev value : Bor Node → NodeValue
value node = node_value node.now

-- what the calls made: the nodes, as they are lent twice, their labels and the graph, as they are lent
made : (one two : SchemaValue) (nodes lent again : List (Bor Node)) (labels lent_labels : List ℕ) (g lent_graph : Graph) (count : ℕ)
    → IsWellFormed one × IsWellFormed two → map value nodes ≡ one.nodes ++ two.nodes → lent ≡ nodes → again ≡ nodes → AreLabels (map value lent) labels
    → lent_labels ≡ labels → count ≡ length one.nodes → length g ≡ length again
    → ((i : ℕ) (n : NodeValue) → slice_get (map value again) i ≡ Some n → IsVertexOf g lent_labels count i n) → lent_graph ≡ g
    → IsJointGraph one two labels lent_graph
made one two nodes lent again labels lent_labels g lent_graph count formed is is_lent is_again are is_labels is_count size each is_graph = record {
  first_formed = formed.0;
  second_formed = formed.1;
  labels_are = subst (λ l. AreLabels l labels) (ap (map value) is_lent ∙ is) are;
  size = ap length is_graph ∙ size ∙ ap length is_again ∙ sym (length-map nodes value) ∙ ap length is;
  each = λ i n at.
      let there : slice_get (map value again) i ≡ Some n = ap (λ l. slice_get (map value l) i) is_again ∙ ap (λ l. slice_get l i) is ∙ at in
      subst (λ g. IsVertexOf g labels (length one.nodes) i n) (sym is_graph)
      (subst (λ l. IsVertexOf g l (length one.nodes) i n) is_labels (subst (λ k. IsVertexOf g lent_labels k i n) is_count (each i n there)));
}

counted : (nodes : List Node) (values : List NodeValue) → map node_value nodes ≡ values → length nodes ≡ length values
counted nodes values e = sym (length-map nodes node_value) ∙ ap length e

pub vertices-requires-clause-edges : goal.vertices-requires-clause-edges
vertices-requires-clause-edges c i n at =
    let one = c.args.one.now in
    let two = c.args.two.now in
    let is = c.in_ok-nodes.ensures.nodes in
    let formed = c.in_ok-nodes.ensures.well_formed in
    let there : slice_get (one.nodes ++ two.nodes) i ≡ Some n =
    sym (ap (λ l. slice_get (map value l) i) c.deref-2.ensures.value ∙ ap (λ l. slice_get l i) is) ∙ at in
    let nodes = c.in_ok-nodes.nodes in
    let small = nodes.small in
    let total : length one.nodes + length two.nodes ≡ length nodes.items =
    sym (length-append one.nodes two.nodes) ∙ sym (ap length is) ∙ length-map nodes.items value in
    let bound : length one.nodes + length two.nodes ≤ 2 ^ 64 = omega (arith, nodes.ok.0) in
    subst (λ count. LeadBelow (2 ^ 64) (begins count i) (tidied n)) (sym (counted c.nodes-count.result.now one.nodes c.nodes-count.ensures.nodes))
    (lead_below one two formed.0 formed.1 (2 ^ 64) bound i n there)

pub same-requires-clause-closed : goal.same-requires-clause-closed
same-requires-clause-closed c =
    joint_closed c.args.one.now c.args.two.now c.in_ok-labels.labels.items c.deref-4.result.now
    (made c.args.one.now c.args.two.now c.in_ok-nodes.nodes.items c.deref.result.now c.deref-2.result.now c.in_ok-labels.labels.items
    c.deref-3.result.now c.in_ok-graph.graph.items c.deref-4.result.now (length c.nodes-count.result.now) c.in_ok-nodes.ensures.well_formed
    c.in_ok-nodes.ensures.nodes c.deref.ensures.value c.deref-2.ensures.value c.in_ok-labels.ensures c.deref-3.ensures.value
    (counted c.nodes-count.result.now c.args.one.now.nodes c.nodes-count.ensures.nodes) c.in_ok-graph.ensures.size
    c.in_ok-graph.ensures.vertices c.deref-4.ensures.value)

pub returns-clause-same : goal.returns-clause-same
returns-clause-same c =
    let one = c.args.one.now in
    let two = c.args.two.now in
    let labels = c.in_ok-labels.labels.items in
    let graph = c.deref-4.result.now in
    let joint : IsJointGraph one two labels graph =
    made one two c.in_ok-nodes.nodes.items c.deref.result.now c.deref-2.result.now labels
    c.deref-3.result.now c.in_ok-graph.graph.items graph (length c.nodes-count.result.now) c.in_ok-nodes.ensures.well_formed
    c.in_ok-nodes.ensures.nodes c.deref.ensures.value c.deref-2.ensures.value c.in_ok-labels.ensures c.deref-3.ensures.value
    (counted c.nodes-count.result.now one.nodes c.nodes-count.ensures.nodes) c.in_ok-graph.ensures.size
    c.in_ok-graph.ensures.vertices c.deref-4.ensures.value in
    let first : c.root.result.place ≡ one.root.place = ap (λ (i : NodeId). i.place) c.root.ensures.root in
    let second : length c.nodes-count.result.now + c.root-2.result.place ≡ length one.nodes + two.root.place =
    omega (arith, counted c.nodes-count.result.now one.nodes c.nodes-count.ensures.nodes, ap (λ (i : NodeId). i.place) c.root-2.ensures.root) in
    let there : ℕ = length c.nodes-count.result.now + c.root-2.result.place in
    let moved : AreBisimilar graph c.root.result.place there ↔ AreBisimilar graph one.root.place (length one.nodes + two.root.place) = (
      λ s. subst (AreBisimilar graph one.root.place) second (subst (λ a. AreBisimilar graph a there) first s),
      λ s. subst (λ a. AreBisimilar graph a there) (sym first) (subst (AreBisimilar graph one.root.place) (sym second) s),
    ) in
    IfOk-weaker c.same.result (λ yes. IsTrue yes ↔ AreBisimilar graph c.root.result.place there) (λ yes. IsTrue yes ↔ AreSame one two)
    (λ yes h. (
      λ t. same_from_graph one two labels graph joint (moved.0 (h.0 t)),
      λ s. h.1 (moved.1 (graph_from_same one two labels graph joint s)),
    ))
    c.same.ensures.same

pub returns-clause-forms : goal.returns-clause-forms
returns-clause-forms c =
    let one = c.args.one.now in
    let two = c.args.two.now in
    let formed = c.in_ok-nodes.ensures.well_formed in
    IfOk-weaker c.same.result (λ yes. IsTrue yes ↔ AreSame one two)
    (λ yes. AreSame one two ↔ IsSame (form one.nodes one.root) (form two.nodes two.root))
    (λ yes h. same_forms one two formed.0 formed.1 yes h) (returns-clause-same c)
