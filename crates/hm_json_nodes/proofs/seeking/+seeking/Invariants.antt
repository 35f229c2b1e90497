use Rattle.std.proofs.Common.{◌*◌, suc, drop}
use Rattle.serde_json.specs.Data.{depth, items_depth}
use Rattle.serde_json.specs.View.{view, items_view}
use Rattle.hm_marks.specs.Among.{HasAll}
use Rattle.hm_json_nodes.specs.Nodes.{Contents, AreNodes, json}
use Rattle.hm_json_nodes.proofs.Sought.{IsLeft}
use Rattle.hm_json_nodes.proofs.seeking.+seeking.Given as goal

abbrev pub decreases-is_other_tree : goal.decreases-is_other_tree
decreases-is_other_tree l = suc (2 * items_depth (items_view l.values.now.items))

abbrev pub decreases-lacks_node : goal.decreases-lacks_node
decreases-lacks_node l = 2 * depth (view l.value.now)

-- a tree that has all of the folder has all of what is left
abbrev pub invariant-is_other_tree-loop-value : goal.invariant-is_other_tree-loop-value
invariant-is_other_tree-loop-value l =
    (c : Contents) → AreNodes (items_view l.values.items) c → HasAll json l.tree c → IsLeft l.tree (items_view (drop l.value-index l.value-items))
