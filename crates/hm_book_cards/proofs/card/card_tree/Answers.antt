use Rattle.std.proofs.Common.{rules, ◌++◌, [], map-id, sym, ap, subst, ◌∙◌}
use Rattle.std.specs.Prelude.{T}
use Rattle.std.proofs.lemmas.Iterator.Adapters.{YieldsList-from_vec}
use Rattle.std.proofs.lemmas.Iterator.Consumers.{YieldsList-end}
use Rattle.hm_tree.specs.Nodes.{are_texts, are_edges, edges_from}
use Rattle.hm_tree.specs.Sets.{ascending}
use Rattle.hm_tree.proofs.Texts.{text_test}
use Rattle.hm_book_cards.specs.Cards.{card_edges, texts_tree, edge_of}
use Rattle.hm_book_cards.proofs.TextTrees.{texts_more}
use Rattle.hm_book_cards.proofs.CardTrees.{card_more, card_are}
use Rattle.hm_book_cards.proofs.card.card_tree.Goals as goal

pub loop-name-preserved : goal.loop-name-preserved
loop-name-preserved c = record {
  edges_are = c.in_ok-push_edge.ensures ∙ ap (λ es. es ++ edge_of c.in-Some.name (texts_tree c.in-Some.set) (ascending c.in-Some.set) []) c.loop-name.invariant.edges_are ∙ sym (card_more c.loop-name.yielded (c.in-Some.name, c.in-Some.set));
  texts = texts_more c.loop-name.yielded (c.in-Some.name, c.in-Some.set) c.loop-name.invariant.texts (text_test c.in-Some.name c.text-text.ensures.utf8);
}

pub of_edges-requires : goal.of_edges-requires
of_edges-requires c =
    let road = YieldsList-from_vec {s = c.into_iter-name-iterator.result} c.args.texts.items (search rules) (search rules) in
    let all = sym (map-id c.loop-name.yielded)
    ∙ (YieldsList-end road c.loop-name.yielded c.loop-name.name-iterator c.loop-name.yielded_by c.next.result c.next.new.self c.in-None.is c.next.ensures.steps).0 in
    let are = edges_from c.args.texts.items c.requires (subst (λ es. T (are_texts es)) all c.loop-name.invariant.texts) in
    subst (λ es. T (are_edges es)) (sym (c.loop-name.invariant.edges_are ∙ ap card_edges all)) (card_are c.args.texts.items are)
