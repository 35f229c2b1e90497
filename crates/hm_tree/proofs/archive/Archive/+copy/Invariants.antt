use Rattle.std.proofs.Common.{◌≡◌, take}
use Rattle.hm_tree.proofs.archive.Archive.+copy.Given as goal

abbrev pub invariant-loop-edge : goal.invariant-loop-edge
invariant-loop-edge l = l.edges.items ≡ take l.edge-index l.edge-items
