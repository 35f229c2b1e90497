use Rattle.std.proofs.Common.{Some}
use Rattle.hm_tree.specs.Archives.{edges_here}
use Rattle.hm_safety.specs.Safety.{IsSafe}
use Rattle.hm_outcome.specs.Trios.{views}
use Rattle.hm_certify.specs.Standing.{trio_of}
use Rattle.hm_certify.specs.Steps.{step}
use Rattle.hm_certify.proofs.EachEdge.{AllBefore}
use Rattle.hm_certify.proofs.safe.+is_safe.Given as goal

abbrev pub decreases-is_safe : goal.decreases-is_safe
decreases-is_safe l = goal.size-is_safe l

abbrev pub invariant-loop-place : goal.invariant-loop-place
invariant-loop-place l = AllBefore (λ k c. IsSafe (views (step k (trio_of l.before)))
    (views (step k (record { archive = l.archive; left = Some l.left; right = Some l.right })))) (edges_here l.archive) l.place
