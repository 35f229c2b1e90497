use Rattle.std.proofs.Common.{◌≡◌, take, map}
use Rattle.hm_tree.specs.Nodes.{edges}
use Rattle.hm_tree.proofs.Kept.{record_edge}
use Rattle.hm_tree.proofs.archive.Archive.+of_tree.Given as goal

abbrev pub invariant-loop-place : goal.invariant-loop-place
invariant-loop-place l = l.edges.items ≡ map record_edge (take l.place (edges l.tree))
