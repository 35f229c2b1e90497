use Rattle.hm_tree_text.proofs.FirstTrees.{first_read, no_fault, not_deep}
use Rattle.hm_tree_text.proofs.reader.first_tree.Goals as goal

pub returns-in-Ok : goal.returns-in-Ok
returns-in-Ok c = first_read c.in-Ok.tree _ c.in-Ok.end c.in-Ok.ensures.text

pub returns-in-Err-BadTree : goal.returns-in-Err-BadTree
returns-in-Err-BadTree c = λ t rest shallow is. no_fault _ t rest shallow is c.in-Err-BadTree.field-0-0 (rw c.in-Err-BadTree.field-0-is at c.in-Err-BadTree.ensures.fault).0

pub returns-in-Err-TooDeep : goal.returns-in-Err-TooDeep
returns-in-Err-TooDeep c = λ t rest shallow is. not_deep _ t rest shallow is (rw c.in-Err-TooDeep.field-0-is at c.in-Err-TooDeep.ensures.fault)
