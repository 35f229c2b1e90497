use Rattle.std.proofs.Common.{rules, ◌≡◌, List, map, map-id, sym, ap, subst, ◌∙◌}
use Rattle.std.specs.Prelude.{T}
use Rattle.std.proofs.lemmas.Iterator.Adapters.{YieldsList-from_vec}
use Rattle.std.proofs.lemmas.Iterator.Consumers.{YieldsList-end}
use Rattle.std.specs.FinMap.{is_sorted}
use Rattle.hm_tree.specs.Names.{Name, name_cmp}
use Rattle.hm_tree.specs.Nodes.{Tree, are_texts, edges_from}
use Rattle.hm_tree.proofs.Texts.{text_test}
use Rattle.hm_book_cards.specs.Cards.{leaf}
use Rattle.hm_book_cards.proofs.TextTrees.{texts_more, leaf_more, rising_leaves}
use Rattle.hm_book_cards.proofs.card.texts_tree.Goals as goal

pub loop-text-preserved : goal.loop-text-preserved
loop-text-preserved c = record {
  edges_are = subst (λ (es : List (Name × Tree)). c.push.new.self.items ≡ es)
      (leaf_more c.loop-text.yielded c.loop-text.edges.items c.in-Some.text c.empty.result c.loop-text.invariant.edges_are c.empty.ensures) c.in_ok-push.ensures.items;
  texts = subst (λ es. T (are_texts es)) (sym c.in_ok-push.ensures.items)
      (texts_more c.loop-text.edges.items (c.in-Some.text, c.empty.result) c.loop-text.invariant.texts (text_test c.in-Some.text c.text-text.ensures.utf8));
}

pub of_edges-requires : goal.of_edges-requires
of_edges-requires c =
    let road = YieldsList-from_vec {s = c.into_iter-text-iterator.result} c.args.texts.items (search rules) (search rules) in
    let all = sym (map-id c.loop-text.yielded)
    ∙ (YieldsList-end road c.loop-text.yielded c.loop-text.text-iterator c.loop-text.yielded_by c.next.result c.next.new.self c.in-None.is c.next.ensures.steps).0 in
    let same = c.loop-text.invariant.edges_are ∙ ap (map leaf) all in
    edges_from c.loop-text.edges.items (subst (λ es. T (is_sorted name_cmp es)) (sym same) (rising_leaves c.args.texts.items c.requires)) c.loop-text.invariant.texts
