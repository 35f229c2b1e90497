use Rattle.std.proofs.Common.{◌≡◌, ◌++◌, ◌∷◌, [], length, ◌+◌, sym, ap, ◌∙◌, arith, take, subst}
use Rattle.std.proofs.lemmas.List.{length-take-le, take_more}
use Rattle.hm_tree.specs.Names.{name_cmp}
use Rattle.hm_book_items.specs.Items.{kept}
use Rattle.hm_book_items.specs.LentKeys.{lent_counts}
use Rattle.hm_book_items.specs.Plans.{places, numbered, AreCounts, next_survivor}
use Rattle.hm_book_items.proofs.Plans.{kept_more}
use Rattle.hm_book_items.proofs.planned.survivors.Goals as goal

pub loop-item-preserved : goal.loop-item-preserved
loop-item-preserved c =
    let inv = c.loop-item.invariant in
    let keys = c.args.keys.now in
    let wanted = lent_counts c.args.wanted.now in
    let i = c.loop-item.item in
    let x = c.index-keys-item.result in
    let more : take (i + 1) keys ≡ take i keys ++ x ∷ [] = take_more keys i x c.loop-item-test.true ∙ ap (λ y. take i keys ++ y ∷ []) (sym c.index-keys-item.is) in
    let n : length (take i keys) ≡ i = length-take-le i keys (let t = c.loop-item-test.true in omega (arith, t)) in (
      subst (λ l. AreCounts wanted l c.visit.new.counts.items) (sym more) (c.in_ok-visit.ensures.counts (take i keys) inv.0),
      c.in_ok-visit.ensures.slots (take i keys) inv.0 ∙ ap (λ l. l ++ next_survivor wanted (take i keys) x i) inv.1 ∙ ap (λ m. kept name_cmp (places wanted) [] (numbered 0 (take i keys)) ++ next_survivor wanted (take i keys) x m) (sym n)
          ∙ sym (kept_more wanted (take i keys) x) ∙ ap (λ l. kept name_cmp (places wanted) [] (numbered 0 l)) (sym more),
      c.in_ok-visit.ensures.within (length keys) c.loop-item-test.true inv.2,
    )
