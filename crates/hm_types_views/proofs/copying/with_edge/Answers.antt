use Rattle.std.proofs.Common.{◌≡◌, [], ◌∷◌, sym, ap, subst, ◌∙◌, rules}
use Rattle.std.specs.List.{zip}
use Rattle.std.specs.List.Sorted.{IsStrictlySortedBy}
use Rattle.std.specs.FinSet.{from_list}
use Rattle.hm_tree.specs.Names.{name_cmp}
use Rattle.hm_types_views.specs.Overlays.{overlay}
use Rattle.hm_types_table.proofs.Sets.{one_sorted}
use Rattle.hm_types_views.proofs.Overlaid.{edge_over}
use Rattle.hm_types_views.proofs.copying.with_edge.Goals as goal

pub overlaid-requires-clause-ones : goal.overlaid-requires-clause-ones
overlaid-requires-clause-ones c =
    let is = c.deref.ensures.value ∙ c.in_ok-one.ensures.items ∙ ap (λ k. k ∷ []) c.in_ok-copy.ensures.value in
    subst (IsStrictlySortedBy name_cmp) (sym is) (one_sorted c.args.name.now)

pub returns : goal.returns
returns c =
    let is = c.deref.ensures.value ∙ c.in_ok-one.ensures.items ∙ ap (λ k. k ∷ []) c.in_ok-copy.ensures.value in
    let set : c.in_ok-set.set ≡ from_list {R = name_cmp} (c.args.name.now ∷ []) = search rules in
    let r = c.in_ok-overlaid in
    record {
      rises = r.ensures.rises;
      count = r.ensures.count;
      leads = λ m. r.ensures.leads m
          ∙ (λ i. overlay (set i) (zip (is i) (c.args.below ∷ [])) (zip c.args.names.now c.args.next.now) m)
          ∙ edge_over c.args.name.now c.args.below (zip c.args.names.now c.args.next.now) m;
    }
