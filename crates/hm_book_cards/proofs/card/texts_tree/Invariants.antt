use Rattle.std.proofs.Common.{◌≡◌, map}
use Rattle.std.specs.Prelude.{T}
use Rattle.hm_tree.specs.Nodes.{are_texts}
use Rattle.hm_book_cards.specs.Cards.{leaf}
use Rattle.hm_book_cards.proofs.card.texts_tree.Given as goal

abbrev pub invariant-loop-text : goal.invariant-loop-text
invariant-loop-text l = record {
  edges_are : l.edges.items ≡ map leaf l.yielded;
  texts : T (are_texts l.edges.items);
}
