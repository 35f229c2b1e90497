use Rattle.std.proofs.Common.{rules, ◌≡◌, ◌<◌, ◌++◌, ◌∷◌, [], length, Some, None, refl, sym, ap, subst, ◌∙◌}
use Rattle.std.specs.BTreeMap.{get, Updates}
use Rattle.hm_graph.specs.declared.sameness.Vertex.{Vertex}
use Rattle.hm_graph.specs.Same.{Graph}
use Rattle.hm_graph_classes.specs.Reduced.{HasVertex}
use Rattle.hm_graph_classes.specs.Indexed.{Key, Loop, loop_cmp, IsIndexed}
use Rattle.hm_graph_classes.proofs.Ties.{loop_equal}
use Rattle.hm_graph_classes.proofs.Found.{gets_unchanged, taken_back}
use Rattle.hm_graph_classes.proofs.Indexes.{index_looped, index_kept, has_last}
use Rattle.hm_graph_classes.proofs.reduced.Reduced.add_loop.Goals as goal

pub returns-in-Some-clause-vertex : goal.returns-in-Some-clause-vertex
returns-in-Some-clause-vertex c =
    subst (λ (g : Graph). HasVertex g c.in-Some.place.now c.args.label (c.args.first ∷ c.in-Some.place.now ∷ [])) c.self.view_is
    ((c.self.invariant.to_itself.each (c.args.label, c.args.first) c.in-Some.place.now).0 (sym c.in-Some.ensures.value)).1

pub invariant_of-self : goal.invariant_of-self
invariant_of-self c =
    index_kept c.self.inside.vertices.items c.self.inside.vertices.items c.self.inside.known c.self.inside.known c.self.inside.loops c.insert.new.self
    c.self.invariant refl refl (gets_unchanged loop_cmp c.self.inside.loops c.insert.new.self c.in_err-insert.ensures.err)

pub invariant_of-self-in-Ok : goal.invariant_of-self-in-Ok
invariant_of-self-in-Ok c =
    let g = c.self.inside.vertices.items in
    let loop : Loop = (c.args.label, c.args.first) in
    let key : Key = (c.args.label, c.in_ok-next.next) in
    let v : Vertex = record { label = c.args.label; next = c.in_ok-next.next } in
    let place : c.len-place.result ≡ length g = search rules in
    let low : c.args.first < length g = subst (λ (g : Graph). c.args.first < length g) (sym c.self.view_is) c.requires in
    let absent : get loop_cmp c.self.inside.loops loop ≡ None = sym c.in_default.ensures.value in
    let edges : c.in_ok-next.next.items ≡ c.args.first ∷ length g ∷ [] = c.in_ok-next.ensures.items ∙ ap (λ n. c.args.first ∷ n ∷ []) place in
    let put : Updates loop_cmp c.self.inside.loops c.insert.new.self loop (Some (length g)) =
    subst (λ n. Updates loop_cmp c.self.inside.loops c.insert.new.self loop (Some n)) place c.in_ok-insert.ensures.updates in
    subst (λ (g : Graph). IsIndexed g c.put.new.known c.insert.new.self) (sym c.in-Ok.ensures.vertices)
    (index_looped g c.self.inside.known c.put.new.known c.self.inside.loops c.self.invariant v key refl refl c.in-Ok.ensures.known
    c.insert.new.self loop refl edges low absent put)

pub invariant_of-self-in-Err : goal.invariant_of-self-in-Err
invariant_of-self-in-Err c =
    let loop : Loop = (c.args.label, c.args.first) in
    let absent : get loop_cmp c.self.inside.loops loop ≡ None = sym c.in_default.ensures.value in
    index_kept c.self.inside.vertices.items c.put.new.vertices.items c.self.inside.known c.put.new.known c.self.inside.loops c.remove.new.self
    c.self.invariant c.in-Err.ensures.same_vertices c.in-Err.ensures.same_known
    (taken_back loop_cmp c.self.inside.loops c.insert.new.self c.remove.new.self loop c.len-place.result c.in_ok-insert.ensures.updates
    c.remove.ensures.updates (loop_equal loop) absent)

pub returns-in-Ok-clause-vertex : goal.returns-in-Ok-clause-vertex
returns-in-Ok-clause-vertex c =
    let g = c.self.inside.vertices.items in
    let v : Vertex = record { label = c.args.label; next = c.in_ok-next.next } in
    let place : c.in-Ok.place ≡ length g = c.in-Ok.ensures.place in
    let there : c.len-place.result ≡ length g = search rules in
    let next : c.in_ok-next.next.items ≡ c.args.first ∷ c.in-Ok.place ∷ [] =
    c.in_ok-next.ensures.items ∙ ap (λ n. c.args.first ∷ n ∷ []) (there ∙ sym place) in
    subst (λ (g : Graph). HasVertex g c.in-Ok.place c.args.label (c.args.first ∷ c.in-Ok.place ∷ [])) (sym c.in-Ok.ensures.vertices)
    (subst (HasVertex (g ++ v ∷ []) c.in-Ok.place c.args.label) next
    (subst (λ i. HasVertex (g ++ v ∷ []) i c.args.label c.in_ok-next.next.items) (sym place) (has_last g v)))

pub returns-in-Ok-clause-reduced : goal.returns-in-Ok-clause-reduced
returns-in-Ok-clause-reduced c = (invariant_of-self-in-Ok c).reduced
