use Rattle.std.proofs.Common.{◌≡◌, take}
use Rattle.hm_tree.specs.Nodes.{deepest}
use Rattle.hm_tree.proofs.tree.depth_above.Given as goal

abbrev pub invariant-loop-edge : goal.invariant-loop-edge
invariant-loop-edge l = l.deep ≡ deepest (take l.edge-index l.edges)
