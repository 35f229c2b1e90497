use Rattle.std.proofs.Common.{rules, ◌≡◌, ◌+◌, ◌<◌, ◌++◌, ◌∷◌, [], length, take, sym, ap, subst, ◌∙◌}
use Rattle.std.specs.FinSet.{from_list}
use Rattle.std.proofs.lemmas.List.{take_all, take_more}
use Rattle.std.proofs.lemmas.Option.{get_or_from_slice_get}
use Rattle.hm_tree.specs.Names.{Name, name_cmp}
use Rattle.hm_tree.specs.Nodes.{Tree, edges}
use Rattle.hm_tree.proofs.Depths.{depth_edge}
use Rattle.hm_schema.specs.WellFormed.{IsWellFormedNode}
use Rattle.hm_schema_lists.specs.Plain.{exact_shape}
use Rattle.hm_types_views.proofs.TreeNode.{AreShown, more_shown, tree_seated, tree_well, tree_form}
use Rattle.hm_types_views.proofs.exact.+exactly.Goals as goal

pub exactly-requires : goal.exactly-requires
exactly-requires t c =
    let lower = depth_edge _ _ _ _ c.edge.ensures in
    search rules

pub loop-place-preserved : goal.loop-place-preserved
loop-place-preserved t c =
    let old = c.args.table.now in
    let new = c.exactly.new.table in
    let es = edges c.args.tree.now in
    let i = c.loop-place.place in
    let e : Name × Tree = (c.edge.result.0.now, c.edge.result.1.now) in
    let j = c.in_ok-exactly.field-0 in
    let lt : i < length es = search rules in
    let all = more_shown old c.loop-place.table new (take i es) c.loop-place.next.items c.loop-place.invariant c.in_ok-exactly.ensures.extends
    c.in_ok-exactly.ensures.formed e j c.in_ok-exactly.ensures.in_range c.in_ok-exactly.ensures.exactly in
    let first : take i es ++ e ∷ [] ≡ take (i + 1) es =
    ap (λ e. take i es ++ e ∷ []) (sym (get_or_from_slice_get es i e e c.edge.ensures)) ∙ sym (take_more es i e lt) in
    subst (λ es. AreShown old new es c.push.new.self.items) first
    (subst (AreShown old new (take i es ++ e ∷ [])) (sym c.in_ok-push.ensures.items) all)

pub add-requires-clause-well : goal.add-requires-clause-well
add-requires-clause-well t c =
    let tree = c.args.tree.now in
    let old = c.args.table.now in
    let nodes = c.loop-place.table in
    let js = c.loop-place.next.items in
    let all = subst (λ es. AreShown old nodes es js) (take_all c.loop-place.place (edges tree) (search rules)) c.loop-place.invariant in
    let shapes = c.in_ok-shapes.ensures.items ∙ ap (λ a. a ∷ []) (c.in_ok-closed.ensures
    ∙ ap (λ ks. exact_shape (from_list {R = name_cmp} ks)) (c.in_ok-copies.ensures ∙ c.deref.ensures.value ∙ c.in_ok-names.ensures)) in
    subst (IsWellFormedNode (length nodes)) (sym (tree_seated tree js
    (record { shapes = c.in_ok-shapes.shapes; names = c.in_ok-names.names; twins = c.new.result }) shapes c.in_ok-names.ensures c.new.ensures.items))
    (tree_well tree js old nodes all)

pub returns-clause-exactly : goal.returns-clause-exactly
returns-clause-exactly t c =
    let tree = c.args.tree.now in
    let old = c.args.table.now in
    let nodes = c.loop-place.table in
    let js = c.loop-place.next.items in
    let all = subst (λ es. AreShown old nodes es js) (take_all c.loop-place.place (edges tree) (search rules)) c.loop-place.invariant in
    let shapes = c.in_ok-shapes.ensures.items ∙ ap (λ a. a ∷ []) (c.in_ok-closed.ensures
    ∙ ap (λ ks. exact_shape (from_list {R = name_cmp} ks)) (c.in_ok-copies.ensures ∙ c.deref.ensures.value ∙ c.in_ok-names.ensures)) in
    tree_form tree js old nodes all c.add.new.self
    (c.in_ok-add.ensures.node ∙ ap (λ n. nodes ++ n ∷ []) (tree_seated tree js
    (record { shapes = c.in_ok-shapes.shapes; names = c.in_ok-names.names; twins = c.new.result }) shapes c.in_ok-names.ensures c.new.ensures.items))
    c.in_ok-add.field-0 c.in_ok-add.ensures.place
