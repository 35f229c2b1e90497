use Rattle.std.proofs.Common.{◌≡◌, map, take}
use Rattle.hm_tree.specs.Names.{Name}
use Rattle.hm_tree.specs.Nodes.{Tree}
use Rattle.hm_book_cards.proofs.card.names_of.Given as goal

abbrev pub invariant-loop-edge : goal.invariant-loop-edge
invariant-loop-edge l = l.names.items ≡ map (λ (e : Name × Tree). e.0) (take l.edge-index l.edge-items)
