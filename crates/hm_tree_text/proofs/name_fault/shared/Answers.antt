use Rattle.hm_tree_text.proofs.Sharing.{shared_done}
use Rattle.hm_tree_text.proofs.name_fault.shared.Goals as goal

pub returns : goal.returns
returns c = shared_done _ _ c.loop-count.count _ c.min-most.ensures c.loop-count-test.false c.loop-count.auto.count-end c.loop-count.invariant
