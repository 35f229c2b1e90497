use Rattle.hm_tree.specs.Parts.{ArePartedSoFar}
use Rattle.hm_tree.proofs.tree.Tree.into_parts.Given as goal

abbrev pub invariant-loop-edge : goal.invariant-loop-edge
invariant-loop-edge l = ArePartedSoFar l.names l.walk l.fn.self l.edge-iterator.rest.items l.inside.items l.outside.items l.at
