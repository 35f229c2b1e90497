use Rattle.std.proofs.Common.{◌≡◌, Some}
use Rattle.std.specs.declared.cmp.Ordering.TheVariants.{Less}
use Rattle.hm_tree.specs.Names.{name_cmp}
use Rattle.hm_tree.specs.Nodes.{edges}
use Rattle.hm_tree.specs.Archives.{under}
use Rattle.hm_tree.specs.States.{IsWithin}
use Rattle.hm_certify.proofs.EachEdge.{AllBefore}
use Rattle.hm_certify.proofs.news.is_within_before.Given as goal

abbrev pub invariant-loop-place : goal.invariant-loop-place
invariant-loop-place l = AllBefore (λ j c. name_cmp j l.name ≡ Less → IsWithin (Some c) (under j l.archive)) (edges l.tree) l.place
