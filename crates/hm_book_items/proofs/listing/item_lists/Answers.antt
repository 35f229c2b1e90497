use Rattle.std.proofs.Common.{◌≡◌, ◌+◌, ◌∷◌, ◌++◌, [], take, refl, sym, ap, ◌∙◌}
use Rattle.std.proofs.lemmas.List.{take_more}
use Rattle.hm_tree.specs.Names.{Name}
use Rattle.hm_tree.specs.Nodes.{Tree}
use Rattle.hm_book_items.proofs.Lists.{one_list_more}
use Rattle.hm_book_items.proofs.listing.item_lists.Goals as goal

pub loop-edge-preserved : goal.loop-edge-preserved
loop-edge-preserved c =
    let es = c.edges-edge-items.result.now in
    let at = c.loop-edge.edge-index in
    let e = c.edge-item.result in
    let taken : take (at + 1) es ≡ take at es ++ e ∷ [] =
    take_more es at e c.loop-edge-test.true ∙ ap (λ (x : Name × Tree). take at es ++ x ∷ []) (sym c.edge-item.is) in
    one_list_more (take at es) (take (at + 1) es) c.loop-edge.lists.items c.push.new.self.items e _ c.loop-edge.invariant taken
    c.in_ok-push.ensures.items (refl, c.in_ok-lent_items.ensures)
