use Rattle.std.proofs.Common.{◌≡◌, List, None, subst}
use Rattle.hm_marks_trees.specs.declared.node.Node.{Node}
use Rattle.hm_marks_trees.specs.Nodes.{contents}
use Rattle.hm_marks_trees.specs.Trees.{AreOver}
use Rattle.hm_marks_trees.proofs.NodeMeasures.{shallow}
use Rattle.hm_marks_trees.proofs.whole.bookmarks_tree.Goals as goal

pub returns-clause-tree : goal.returns-clause-tree
returns-clause-tree c =
    shallow (contents c.args.bar.items) (contents c.args.other.items) c.in_ok-both.field-0 c.in_ok-bar_tree.bar_tree c.in_ok-other_tree.other_tree
    (subst (λ (l : List Node). AreOver (contents c.args.bar.items) (contents l) None) c.deref-2.ensures.value
    (subst (λ (l : List Node). AreOver (contents l) (contents c.deref-2.result.now) None) c.deref.ensures.value
    (subst (AreOver (contents c.deref.result.now) (contents c.deref-2.result.now)) none c.in_ok-depth.ensures)))
    c.in_ok-both.ensures c.in_ok-bar_tree.ensures c.in_ok-other_tree.ensures
  where
    none : c.in_ok-depth.field-0 ≡ None
    none = cc
