-- A tree that has items is a list.
use Rattle.std.proofs.Common.{List}
use Rattle.hm_tree.specs.Nodes.{Tree}
use Rattle.hm_tree_parts.specs.Lists.{IsList, no_items, an_item, HasItems, none_left, and_then}

pub items_list : (t : Tree) (xs : List Tree) → HasItems t xs → IsList t
items_list t xs (none_left none) = no_items none
items_list t xs (and_then {r = r} {xs = ys} is rest) = an_item is tt (items_list r ys rest)
