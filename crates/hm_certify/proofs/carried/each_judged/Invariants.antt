use Rattle.std.proofs.Common.{option_copied}
use Rattle.hm_tree.specs.Nodes.{edges}
use Rattle.hm_certify.specs.Standing.{archive_or_none}
use Rattle.hm_certify.specs.Carrying.{IsJudged}
use Rattle.hm_certify.proofs.EachEdge.{AllBefore}
use Rattle.hm_certify.proofs.carried.each_judged.Given as goal

abbrev pub invariant-loop-place : goal.invariant-loop-place
invariant-loop-place l = AllBefore (λ k c. IsJudged (archive_or_none (option_copied l.archive)) l.mine l.other l.names k) (edges l.side) l.place
