use Rattle.std.proofs.Common.{length}
use Rattle.hm_book_items.proofs.Made.{AreMadeSoFar}
use Rattle.hm_book_items.proofs.gathering.tree_of.Given as goal

abbrev pub invariant-loop-name : goal.invariant-loop-name
invariant-loop-name l = AreMadeSoFar l.fn.items.items l.left.items l.edges.items

abbrev pub decreases-loop-name : goal.decreases-loop-name
decreases-loop-name l = length l.left.items
