use Rattle.std.proofs.Common.{◌+◌, length}
use Rattle.hm_tree.specs.Merging.{AreMerging}
use Rattle.hm_tree.proofs.merging.merge.Given as goal

abbrev pub invariant-loop-edge : goal.invariant-loop-edge
invariant-loop-edge l = AreMerging l.fn.one.items l.fn.two.items l.merged.items l.ones.items l.twos.items

abbrev pub decreases-loop-edge : goal.decreases-loop-edge
decreases-loop-edge l = length l.ones.items + length l.twos.items
