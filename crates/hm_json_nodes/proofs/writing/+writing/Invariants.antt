use Rattle.std.proofs.Common.{◌*◌, suc, [], List, map, take}
use Rattle.std.specs.Vec.Iter.{into_iter_items}
use denote.Param.Weighed.{most}
use Rattle.hm_tree.specs.Names.{Name, name_cmp}
use Rattle.hm_tree.specs.Nodes.{depth}
use Rattle.hm_book_items.specs.Items.{fresh, added}
use Rattle.hm_book_items.specs.ItemTrees.{Lists, lists_depth}
use Rattle.hm_book_items.specs.Lent.{lent_lists}
use Rattle.hm_book_items.specs.Plans.{keys_of}
use Rattle.hm_marks.specs.Pieces.{an_item}
use Rattle.serde_json.specs.View.{items_view}
use Rattle.hm_json_nodes.specs.Nodes.{Contents, AreNodes}
use Rattle.hm_marks_schema.specs.Taken.{HaveTaken}
use Rattle.hm_json_nodes.specs.Anew.{OldItem, Adds}
use Rattle.hm_json_nodes.proofs.Left.{AreLeft}
use Rattle.hm_json_nodes.proofs.writing.+writing.Given as goal

abbrev pub decreases-nodes_anew : goal.decreases-nodes_anew
decreases-nodes_anew l = suc (suc (suc (4 * depth l.tree.now)))

abbrev pub decreases-add_old : goal.decreases-add_old
decreases-add_old l = suc (suc (4 * lists_depth depth (lent_lists l.trees.now.lists.now)))

abbrev pub decreases-add_over : goal.decreases-add_over
decreases-add_over l = suc (4 * lists_depth depth (lent_lists l.trees.now.lists.now))

abbrev pub decreases-add_new : goal.decreases-add_new
decreases-add_new l = suc (suc (4 * lists_depth depth (lent_lists l.trees.now.lists.now)))

abbrev pub decreases-add_with_key : goal.decreases-add_with_key
decreases-add_with_key l = suc (4 * most depth (map (λ t. t.now) l.trees.now))

abbrev pub decreases-node_anew : goal.decreases-node_anew
decreases-node_anew l = 4 * depth l.tree.now

-- what is left of the nodes, and what became of those before
abbrev pub invariant-add_old-loop-node : goal.invariant-add_old-loop-node
invariant-add_old-loop-node l =
    (lists : Lists) (c : Contents) → HaveTaken l.fn.trees lists [] → AreNodes (items_view l.fn.old.items) c → AreLeft lists c l.trees (into_iter_items l.node-iterator) l.fn.new.items l.new.items

abbrev pub invariant-add_new-loop-edge : goal.invariant-add_new-loop-edge
invariant-add_new-loop-edge l =
    (lists : Lists) (before : List (Name × OldItem)) → HaveTaken l.trees lists (keys_of before) → Adds l.fn.new.items l.new.items (map an_item (added name_cmp before (take l.edge lists)))

abbrev pub invariant-add_with_key-loop-tree : goal.invariant-add_with_key-loop-tree
invariant-add_with_key-loop-tree l =
    Adds l.fn.new.items l.new.items (map an_item (fresh name_cmp l.key (map (λ t. t.now) (take l.tree-index l.trees))))
