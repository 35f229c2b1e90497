use Rattle.hm_focal_terms.proofs.Limits.{AreCounted}
use Rattle.hm_focal_terms.proofs.limit.is_oversized.Given as goal

abbrev pub invariant-loop-byte : goal.invariant-loop-byte
invariant-loop-byte l = AreCounted l.text l.byte-index l.place l.opened l.closed l.semicolons
