use Rattle.hm_tree.specs.Nodes.{edges}
use Rattle.hm_certify.specs.Standing.{trio_of}
use Rattle.hm_certify.specs.Safe.{GoesUnder}
use Rattle.hm_certify.proofs.EachEdge.{AllBefore}
use Rattle.hm_certify.proofs.safe.each_goes.Given as goal

abbrev pub invariant-loop-place : goal.invariant-loop-place
invariant-loop-place l = AllBefore (λ k c. GoesUnder (trio_of l.before) l.archive l.left l.right k) (edges l.side) l.place
