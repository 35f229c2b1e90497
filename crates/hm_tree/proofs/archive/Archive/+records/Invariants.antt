use Rattle.std.proofs.Common.{◌≡◌, take, map}
use Rattle.hm_tree.specs.Nodes.{edges}
use Rattle.hm_tree.proofs.Kept.{record_edge}
use Rattle.hm_tree.proofs.archive.Archive.+records.Given as goal

abbrev pub invariant-loop-at : goal.invariant-loop-at
invariant-loop-at l = take l.at l.self-inside.edges.items ≡ take l.at (map record_edge (edges l.tree))
