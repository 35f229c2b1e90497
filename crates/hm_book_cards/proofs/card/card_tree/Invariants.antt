use Rattle.std.proofs.Common.{◌≡◌}
use Rattle.std.specs.Prelude.{T}
use Rattle.hm_tree.specs.Nodes.{are_texts}
use Rattle.hm_book_cards.specs.Cards.{card_edges}
use Rattle.hm_book_cards.proofs.card.card_tree.Given as goal

abbrev pub invariant-loop-name : goal.invariant-loop-name
invariant-loop-name l = record {
  edges_are : l.edges.items ≡ card_edges l.yielded;
  texts : T (are_texts l.yielded);
}
