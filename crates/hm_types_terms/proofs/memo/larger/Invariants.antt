use Rattle.hm_types_terms.specs.Memos.{AreAmong}
use Rattle.hm_types_terms.proofs.memo.larger.Given as goal

abbrev pub invariant-loop-slot : goal.invariant-loop-slot
invariant-loop-slot l = AreAmong l.more.items l.slots
