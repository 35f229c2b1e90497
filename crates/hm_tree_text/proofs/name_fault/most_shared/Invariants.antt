use Rattle.hm_tree_text.proofs.Walking.{MostBelow}
use Rattle.hm_tree_text.proofs.name_fault.most_shared.Given as goal

abbrev pub invariant-loop-byte : goal.invariant-loop-byte
invariant-loop-byte l = MostBelow l.character l.left l.bytes l.byte l.most
