use Rattle.std.proofs.Common.{◌≡◌, ◌<◌, ◌++◌, ◌∷◌, [], length, All, None, refl, sym, subst}
use Rattle.std.specs.BTreeMap.{get}
use Rattle.hm_graph.specs.declared.sameness.Vertex.{Vertex}
use Rattle.hm_graph.specs.Same.{Graph}
use Rattle.hm_graph_classes.specs.Reduced.{HasVertex}
use Rattle.hm_graph_classes.specs.Indexed.{Key, key_cmp, IsIndexed}
use Rattle.hm_graph_classes.proofs.Indexes.{index_added, index_kept, has_last}
use Rattle.hm_graph_classes.proofs.reduced.Reduced.add.Goals as goal

pub returns-in-Some-clause-vertex : goal.returns-in-Some-clause-vertex
returns-in-Some-clause-vertex c =
    subst (λ (g : Graph). HasVertex g c.in-Some.place.now c.args.label c.args.next.items) c.self.view_is
    ((c.self.invariant.vertices.each (c.args.label, c.args.next) c.in-Some.place.now).0 (sym c.in-Some.ensures.value)).1

pub invariant_of-self : goal.invariant_of-self
invariant_of-self c =
    index_kept c.self.inside.vertices.items c.put.new.vertices.items c.self.inside.known c.put.new.known c.self.inside.loops c.self.inside.loops
    c.self.invariant c.in_err-put.ensures.same_vertices c.in_err-put.ensures.same_known (λ q. refl)

pub invariant_of-self-2 : goal.invariant_of-self-2
invariant_of-self-2 c =
    let g = c.self.inside.vertices.items in
    let key : Key = (c.args.label, c.args.next) in
    let v : Vertex = record { label = c.args.label; next = c.args.next } in
    let edges : All (λ k. k < length g) c.args.next.items =
    subst (λ (g : Graph). All (λ k. k < length g) c.args.next.items) (sym c.self.view_is) c.requires in
    let absent : get key_cmp c.self.inside.known key ≡ None = sym c.in_default.ensures.value in
    subst (λ (g : Graph). IsIndexed g c.put.new.known c.self.inside.loops) (sym c.in_ok-put.ensures.vertices)
    (index_added g c.self.inside.known c.put.new.known c.self.inside.loops c.self.invariant v key refl refl c.in_ok-put.ensures.known edges absent)

pub returns-clause-vertex : goal.returns-clause-vertex
returns-clause-vertex c =
    let g = c.self.inside.vertices.items in
    let v : Vertex = record { label = c.args.label; next = c.args.next } in
    subst (λ (g : Graph). HasVertex g c.in_ok-put.field-0 c.args.label c.args.next.items) (sym c.in_ok-put.ensures.vertices)
    (subst (λ i. HasVertex (g ++ v ∷ []) i c.args.label c.args.next.items) (sym c.in_ok-put.ensures.place) (has_last g v))

pub returns-clause-reduced : goal.returns-clause-reduced
returns-clause-reduced c = (invariant_of-self-2 c).reduced
