use Rattle.std.proofs.Common.{ℕ, ◌<◌, All, length, map, refl, sym, subst, ◌∙◌}
use Rattle.std.proofs.lemmas.Option.{slice_get_read}
use Rattle.hm_graph_classes.specs.Reduced.{HasVertex, class_at}
use Rattle.hm_types_table.proofs.ClassEdges.{classes_below, places_inside, found_edges}
use Rattle.hm_types_table.proofs.annotations.Annotations.found.Goals as goal

pub classes_at-requires : goal.classes_at-requires
classes_at-requires c =
    let classes = c.args.self.now.classes.items in
    let inside = places_inside classes c.index-outline.result.now c.args.next.now c.args.other c.requires.next c.requires.other in
    subst (λ l. All (λ (k : ℕ). k < length l) c.deref-2.result.now) (sym c.deref.ensures.value)
    (subst (All (λ k. k < length classes)) (sym (c.deref-2.ensures.value ∙ c.in_ok-edges.ensures)) inside)

pub add-requires : goal.add-requires
add-requires c =
    let classes = c.args.self.now.classes.items in
    let o = c.index-outline.result.now in
    let inside = places_inside classes o c.args.next.now c.args.other c.requires.next c.requires.other in
    let are = c.in_ok-edges-2.ensures
    ∙ (λ t. map (class_at (c.deref.ensures.value t)) ((c.deref-2.ensures.value ∙ c.in_ok-edges.ensures) t)) in
    subst (All (λ k. k < length c.args.self.now.reduced)) (sym are)
    (classes_below classes (length c.args.self.now.reduced) _ c.requires.classes inside)

pub returns-clause-class : goal.returns-clause-class
returns-clause-class c =
    let classes = c.args.self.now.classes.items in
    let o = c.index-outline.result.now in
    let class = c.in_ok-add.field-0 in
    let are = c.in_ok-edges-2.ensures
    ∙ (λ t. map (class_at (c.deref.ensures.value t)) ((c.deref-2.ensures.value ∙ c.in_ok-edges.ensures) t)) in
    record {
      outline = o;
      is_outline = slice_get_read c.args.self.now.outlines.items _ c.args.seen o refl c.requires.seen c.index-outline.ensures;
      vertex = subst (HasVertex c.add.new.self class o.label)
          (are ∙ found_edges classes o c.args.next.now c.args.other c.requires.next c.requires.other class) c.in_ok-add.ensures.vertex;
    }
