use Rattle.std.proofs.Common.{rules, ◌≡◌, ◌+◌, ◌<◌, List, ℕ, length, map, get_or, slice_get, All, refl, sym, ap, subst, ◌∙◌}
use Rattle.std.proofs.lemmas.Option.{slice_get-get_or, slice_get_read}
use Rattle.hm_graph.specs.declared.sameness.Vertex.{Vertex}
use Rattle.hm_graph.specs.Same.{Graph}
use Rattle.hm_graph_classes.specs.Reduced.{class_at}
use Rattle.hm_graph_classes.specs.Partitions.{IsStable, AreNumbers, IsQuotient}
use Rattle.hm_graph_classes.proofs.Numbers.{quotient_more, quotient_classes, quotient_reduced}
use Rattle.hm_graph_classes.proofs.quotient.quotient.Goals as goal

-- the numbers of the classes, as the code lends the firsts and the heads
numbers_are : (g : Graph) (firsts lent heads numbers : List ℕ) → IsStable g firsts → lent ≡ firsts → AreNumbers lent heads numbers (length lent)
    → AreNumbers firsts heads numbers (length g)
numbers_are g firsts lent heads numbers s e h =
    subst (λ lent. AreNumbers lent heads numbers (length g)) e (subst (AreNumbers lent heads numbers) (ap length e ∙ s.size) h)

head_inside : (g : Graph) (firsts heads lent numbers : List ℕ) (i : ℕ) → AreNumbers firsts heads numbers (length g) → lent ≡ heads → i < length lent
    → get_or lent i 0 < length g
head_inside g firsts heads lent numbers i h e lt =
    (h.back i (get_or lent i 0) (ap (λ (l : List ℕ). slice_get l i) (sym e) ∙ slice_get-get_or lent i 0 lt)).0

quotient_is : (g : Graph) (lent heads numbers : List ℕ) (vertices : Graph) (i : ℕ) → IsQuotient g lent numbers vertices i → lent ≡ heads
    → i ≡ length lent → IsQuotient g heads numbers vertices (length heads)
quotient_is g lent heads numbers vertices i q e done =
    subst (λ heads. IsQuotient g heads numbers vertices (length heads)) e (subst (IsQuotient g lent numbers vertices) done q)

pub bounds-graph-head : goal.bounds-graph-head
bounds-graph-head c =
    let heads = c.deref-head-items.result.now in
    let h = numbers_are c.args.graph.now c.in_ok-firsts.firsts.items c.deref.result.now c.in_ok-heads.heads.items c.in_ok-heads.numbers.items
    c.in_ok-firsts.ensures c.deref.ensures.value c.in_ok-heads.ensures in
    head_inside c.args.graph.now c.in_ok-firsts.firsts.items c.in_ok-heads.heads.items heads c.in_ok-heads.numbers.items c.loop-head.head-index
    h c.deref-head-items.ensures.value c.loop-head-test.true

pub offset_bounds-graph-head : goal.offset_bounds-graph-head
offset_bounds-graph-head c = let lt = bounds-graph-head c in search rules

pub copied-requires : goal.copied-requires
copied-requires c =
    let g = c.args.graph.now in
    let head = get_or c.deref-head-items.result.now c.loop-head.head-index 0 in
    let v = c.index-graph-head.result in
    let h = numbers_are g c.in_ok-firsts.firsts.items c.deref.result.now c.in_ok-heads.heads.items c.in_ok-heads.numbers.items
    c.in_ok-firsts.ensures c.deref.ensures.value c.in_ok-heads.ensures in
    let lt = head_inside g c.in_ok-firsts.firsts.items c.in_ok-heads.heads.items c.deref-head-items.result.now c.in_ok-heads.numbers.items
    c.loop-head.head-index h c.deref-head-items.ensures.value c.loop-head-test.true in
    let inside : All (λ k. k < length g) v.next.items =
    subst (λ (v : Vertex). All (λ k. k < length g) v.next.items) (sym c.index-graph-head.is) (c.requires head v lt) in
    let count : length g ≡ length c.deref-in-loop-head.result.now = sym (ap length c.deref-in-loop-head.ensures.value ∙ h.size) in
    subst (λ n. All (λ k. k < n) v.next.items) count inside

pub loop-head-preserved : goal.loop-head-preserved
loop-head-preserved c =
    let g = c.args.graph.now in
    let heads = c.deref-head-items.result.now in
    let numbers = c.in_ok-heads.numbers.items in
    let i = c.loop-head.head-index in
    let v = c.index-graph-head.result in
    let w = c.in_ok-copied.field-0 in
    let h = numbers_are g c.in_ok-firsts.firsts.items c.deref.result.now c.in_ok-heads.heads.items numbers
    c.in_ok-firsts.ensures c.deref.ensures.value c.in_ok-heads.ensures in
    let lt = head_inside g c.in_ok-firsts.firsts.items c.in_ok-heads.heads.items heads numbers i h c.deref-head-items.ensures.value
    c.loop-head-test.true in
    subst (λ vertices. IsQuotient g heads numbers vertices (i + 1)) (sym c.in_ok-push.ensures.items)
    (quotient_more g heads numbers c.loop-head.vertices.items i c.loop-head.invariant v w (get_or heads i 0)
    (slice_get-get_or heads i 0 c.loop-head-test.true) (slice_get_read g (length g) (get_or heads i 0) v refl lt c.index-graph-head.is)
    c.in_ok-copied.ensures.label
    (c.in_ok-copied.ensures.next ∙ ap (λ (l : List ℕ). map (class_at l) v.next.items) c.deref-in-loop-head.ensures.value))

pub returns-clause-reduced : goal.returns-clause-reduced
returns-clause-reduced c =
    let h = numbers_are c.args.graph.now c.in_ok-firsts.firsts.items c.deref.result.now c.in_ok-heads.heads.items c.in_ok-heads.numbers.items
    c.in_ok-firsts.ensures c.deref.ensures.value c.in_ok-heads.ensures in
    let done : c.loop-head.head-index ≡ length c.deref-head-items.result.now = search rules in
    quotient_reduced c.args.graph.now c.requires c.in_ok-firsts.firsts.items c.in_ok-heads.heads.items c.in_ok-heads.numbers.items
    c.loop-head.vertices.items c.in_ok-firsts.ensures h
    (quotient_is c.args.graph.now c.deref-head-items.result.now c.in_ok-heads.heads.items c.in_ok-heads.numbers.items c.loop-head.vertices.items
    c.loop-head.head-index c.loop-head.invariant c.deref-head-items.ensures.value done)

pub returns-clause-classes : goal.returns-clause-classes
returns-clause-classes c =
    let h = numbers_are c.args.graph.now c.in_ok-firsts.firsts.items c.deref.result.now c.in_ok-heads.heads.items c.in_ok-heads.numbers.items
    c.in_ok-firsts.ensures c.deref.ensures.value c.in_ok-heads.ensures in
    let done : c.loop-head.head-index ≡ length c.deref-head-items.result.now = search rules in
    quotient_classes c.args.graph.now c.requires c.in_ok-firsts.firsts.items c.in_ok-heads.heads.items c.in_ok-heads.numbers.items
    c.loop-head.vertices.items c.in_ok-firsts.ensures h
    (quotient_is c.args.graph.now c.deref-head-items.result.now c.in_ok-heads.heads.items c.in_ok-heads.numbers.items c.loop-head.vertices.items
    c.loop-head.head-index c.loop-head.invariant c.deref-head-items.ensures.value done)
