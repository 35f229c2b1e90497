use Rattle.std.proofs.Common.{◌≡◌, ◌+◌, ◌-◌, List, ◌∷◌, drop, length, sym, ap, ◌∙◌, subst, arith}
use Rattle.std.proofs.lemmas.List.{drop_more, take_all, length-drop}
use Rattle.hm_tree.specs.Names.{Name}
use Rattle.hm_tree.proofs.Texts.{text_test}
use Rattle.hm_book_items.specs.ItemTrees.{list_depth}
use Rattle.hm_book_items.specs.Runs.{list_first, runs}
use Rattle.hm_book_items.proofs.ListDepths.{AreLookedAt, one_looked_at}
use Rattle.hm_book_items.proofs.depths.depth_of_runs.Goals as goal

pub loop-at-preserved : goal.loop-at-preserved
loop-at-preserved g c =
    let items = c.args.items.now in
    let at = c.loop-at.at in
    let x = c.index-items-at.result in
    let next : at - 1 + 1 ≡ at = omega arith in
    let whole =
    drop_more items (at - 1) x (omega arith) ∙ ap (λ (y : Name × g.row.D.Denot). y ∷ drop (at - 1 + 1) items) (sym c.index-items-at.is)
    ∙ ap (λ n. x ∷ drop n items) next in
    let behind = take_all (length items - (at - 1 + 1)) (drop (at - 1 + 1) items) (omega (arith, length-drop (at - 1 + 1) items)) ∙ ap (λ n. drop n items) next in
    subst (λ xs. AreLookedAt g.D.Deep.deep xs c.max-deepest.result c.in_ok-list.list) (sym whole)
    (one_looked_at g.D.Deep.deep x (drop at items) c.loop-at.deepest c.loop-at.list _ _ _ _ _ _ c.loop-at.invariant (text_test x.0 c.text-text.ensures.utf8)
    (c.depth_behind-others.ensures ∙ ap (λ (xs : List (Name × g.row.D.Denot)). list_depth g.D.Deep.deep (list_first x.0 (runs xs))) behind) c.depth.ensures c.max.ensures c.in_ok-list.ensures
    c.in_ok-one_more.ensures c.max-deepest.ensures)
