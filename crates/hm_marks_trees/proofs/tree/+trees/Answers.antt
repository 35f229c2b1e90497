use Rattle.std.proofs.Common.{List, subst, sym}
use Rattle.std.proofs.lemmas.Result.{IfOk-weaker}
use Rattle.hm_marks_trees.specs.declared.node.Node.{Node}
use Rattle.hm_marks_trees.specs.Nodes.{view, PlainItem, IsItemOf, AreItemsOf}
use Rattle.hm_marks_trees.proofs.Items.{view_folder, one_more, all_taken, show_all}
use Rattle.hm_marks_trees.proofs.tree.+trees.Goals as goal

pub tree_of-loop-node-preserved : goal.tree_of-loop-node-preserved
tree_of-loop-node-preserved t c =
    one_more c.loop-node.yielded c.loop-node.items.items c.add.new.items.items c.in-Some.node c.in_ok-item.item c.loop-node.invariant
    c.in_ok-item.ensures c.in_ok-add.ensures

pub tree_of-returns : goal.tree_of-returns
tree_of-returns t c =
    let all = all_taken c.into_iter-node-iterator.result c.loop-node.node-iterator c.args.nodes.items c.loop-node.yielded c.loop-node.yielded_by
    c.into_iter-node-iterator.ensures.into_iter_gives.0 c.in-None.ensures.steps.0 in
    let zipped = subst (λ (l : List Node). AreItemsOf l c.loop-node.items.items) all c.loop-node.invariant in
    IfOk-weaker c.items_tree.result _ _
    (λ t h. record { items = c.loop-node.items.items; show = show_all c.args.nodes.items c.loop-node.items.items zipped; tree = h }) c.items_tree.ensures

pub item_of-returns-in_ok-folder_item-in-Folder : goal.item_of-returns-in_ok-folder_item-in-Folder
item_of-returns-in_ok-folder_item-in-Folder t c =
    subst (λ n. IsItemOf (view n) c.in_ok-folder_item-in-Folder.field-0) (sym c.in-Folder.is)
    (subst (λ (i : PlainItem). IsItemOf i c.in_ok-folder_item-in-Folder.field-0) (sym (view_folder c.in-Folder.key c.in-Folder.inside)) (
      c.in_ok-folder_item-in-Folder.ensures.key,
      (c.in_ok-tree-in-Folder.tree, (c.in_ok-folder_item-in-Folder.ensures.tree, c.in_ok-tree-in-Folder.ensures)),
    ))
