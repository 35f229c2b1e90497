use Rattle.std.proofs.Common.{◌≡◌, ◌++◌, map, take}
use Rattle.hm_schema.specs.Values.{node_value}
use Rattle.hm_book_cards.specs.Books.{texts_node}
use Rattle.hm_book_cards.proofs.nodes.texts_nodes.Given as goal

abbrev pub invariant-loop-many : goal.invariant-loop-many
invariant-loop-many l = map node_value l.nodes.items ≡ map node_value l.initial.nodes.items ++ map texts_node (take l.many-index l.others)
