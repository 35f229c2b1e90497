use Rattle.std.proofs.Common.{◌*◌, ℕ, suc, List, ◌++◌, drop}
use Rattle.serde_json.specs.Data.{depth, items_depth}
use Rattle.serde_json.specs.View.{view, items_view}
use Rattle.hm_marks_trees.specs.declared.node.Node.{Node}
use Rattle.hm_json_nodes.specs.Numbers.{listed}
use Rattle.hm_json_nodes.specs.Reading.{AreRead, IsMisfit}
use Rattle.hm_json_nodes.proofs.reading.+nodes.Given as goal

abbrev pub decreases-nodes_of : goal.decreases-nodes_of
decreases-nodes_of l = suc (2 * items_depth (items_view l.values.now.items))

abbrev pub decreases-node_of : goal.decreases-node_of
decreases-node_of l = 2 * depth (view l.value.now)

abbrev pub invariant-nodes_of-loop-value : goal.invariant-nodes_of-loop-value
invariant-nodes_of-loop-value l =
    ((more : List Node) (to : ℕ) → AreRead (items_view (drop l.value-index l.value-items)) l.count to more
    → AreRead (items_view l.values.items) l.fn.count to (l.nodes.items ++ more))
    × ((number : ℕ) → IsMisfit (listed (items_view (drop l.value-index l.value-items))) l.count number
    → IsMisfit (listed (items_view l.values.items)) l.fn.count number)
