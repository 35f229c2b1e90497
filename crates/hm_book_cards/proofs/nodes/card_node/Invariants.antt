use Rattle.std.proofs.Common.{◌≡◌, map, take, Bool}
use Rattle.hm_tree.specs.Names.{Name}
use Rattle.hm_book_cards.specs.Books.{id, texts_place, kinds}
use Rattle.hm_book_cards.proofs.nodes.card_node.Given as goal

abbrev pub invariant-loop-name : goal.invariant-loop-name
invariant-loop-name l = record {
  names : l.names.items ≡ map (λ (s : Name × Bool). s.0) (take l.name-index l.shown);
  children : l.children.items ≡ map (λ (s : Name × Bool). (s.0, id (texts_place (kinds l.fn.shown) s.1))) (take l.name-index l.shown);
}
