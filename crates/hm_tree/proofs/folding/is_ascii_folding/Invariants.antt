use Rattle.hm_tree.proofs.Folded.{IsLowerSoFar}
use Rattle.hm_tree.proofs.folding.is_ascii_folding.Given as goal

abbrev pub invariant-loop-byte : goal.invariant-loop-byte
invariant-loop-byte l = IsLowerSoFar l.bytes l.byte-index l.is_lower
