use Rattle.std.proofs.Common.{◌≡◌, take}
use denote.Param.Weighed.{most}
use Rattle.hm_tree.specs.Nodes.{edges, depth}
use Rattle.hm_marks_schema.specs.Nesting.{at_folder}
use Rattle.hm_marks_schema.proofs.Nesting.{at_edge}
use Rattle.hm_marks_schema.proofs.Walks.{IsAhead}
use Rattle.hm_marks_schema.proofs.limits.+nesting.Given as goal

abbrev pub invariant-nested_in_folder-loop-place : goal.invariant-nested_in_folder-loop-place
invariant-nested_in_folder-loop-place l = l.most ≡ most (at_edge at_folder) (take l.place (edges l.folder))

abbrev pub invariant-nested_in_list-loop-item : goal.invariant-nested_in_list-loop-item
invariant-nested_in_list-loop-item l = IsAhead l.list l.rest l.most

abbrev pub decreases-nested_in_list-loop-item : goal.decreases-nested_in_list-loop-item
decreases-nested_in_list-loop-item l = depth l.rest
