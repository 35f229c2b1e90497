use Rattle.std.proofs.Common.{◌++◌, not, map, sym, subst, ◌∙◌}
use Rattle.std.specs.List.{list_any, filter}
use Rattle.std.specs.List.Sorted.{IsPermutation}
use Rattle.hm_types_nodes.specs.Merging.{same_shape, unrequired}
use Rattle.hm_types_views.proofs.MergedShapes.{merged_same}
use Rattle.hm_types_views.proofs.merging.merge_shapes.Goals as goal

pub returns : goal.returns
returns c =
    let m = c.args.name.now in
    let first = c.in_ok-shapes.ensures in
    c.in_ok-push_rest.ensures
    ∙ (λ i. first i ++ filter (λ b. not (list_any (same_shape b) c.deref-2.result.now)) c.args.twos.now)
    ∙ merged_same m c.args.ones.now c.args.twos.now c.deref.result.now c.deref-2.result.now
    (subst (IsPermutation c.args.twos.now) (sym c.deref.ensures.value)
    (subst (λ xs. IsPermutation xs c.sort.new.self.items) c.in_ok-others.ensures c.sort.ensures.permutation))
    (subst (IsPermutation (map (unrequired m) c.args.ones.now)) (sym c.deref-2.ensures.value)
    (subst (λ xs. IsPermutation xs c.sort-2.new.self.items) c.in_ok-bare.ensures c.sort-2.ensures.permutation))
