use Rattle.std.proofs.Common.{◌≡◌, ◌+◌, length, take}
use Rattle.std.specs.List.{flat_map}
use Rattle.hm_tree.specs.Archives.{edges_here}
use Rattle.hm_outcome.proofs.TopmostLists.{place_marks}
use Rattle.hm_certify.proofs.marks.+left_over.Given as goal

abbrev pub decreases-left_over : goal.decreases-left_over
decreases-left_over l = goal.size-left_over l

abbrev pub invariant-loop-place : goal.invariant-loop-place
invariant-loop-place l = l.left + length (flat_map place_marks (take l.place (edges_here l.archive))) ≡ l.fn.number
