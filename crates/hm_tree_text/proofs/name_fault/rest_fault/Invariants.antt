use Rattle.std.proofs.Common.{◌-◌, length}
use Rattle.hm_tree_text.proofs.Walking.{WalkedAll}
use Rattle.hm_tree_text.proofs.name_fault.rest_fault.Given as goal

abbrev pub invariant-loop-byte : goal.invariant-loop-byte
invariant-loop-byte l = WalkedAll l.fn.left l.bytes l.at l.character l.left

abbrev pub decreases-loop-byte : goal.decreases-loop-byte
decreases-loop-byte l = length l.bytes - l.at
