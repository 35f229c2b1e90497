use Rattle.std.proofs.Common.{◌≡◌, Some, All, slice_get, take}
use Rattle.hm_tree.specs.Nodes.{edges, depth}
use Rattle.hm_schema.specs.Values.{NodeValue}
use Rattle.hm_types_table.proofs.MemberNode.{IsMemberBelow}
use Rattle.hm_types_table.proofs.membership.+member.Given as goal

abbrev pub decreases-member : goal.decreases-member
decreases-member l = depth l.tree.now

abbrev pub invariant-loop-place : goal.invariant-loop-place
invariant-loop-place l = (n : NodeValue) → slice_get l.table l.id.place ≡ Some n → All (λ e. IsMemberBelow l.table n e.0 e.1) (take l.place (edges l.tree))
