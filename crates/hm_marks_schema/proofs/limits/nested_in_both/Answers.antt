use Rattle.std.proofs.Common.{ap, ◌∙◌, arith}
use denote.Param.Weighed.{most}
use Rattle.hm_marks_schema.specs.Nesting.{at_top}
use Rattle.hm_marks_schema.proofs.Nesting.{at_edge, by_edges}
use Rattle.hm_marks_schema.proofs.limits.nested_in_both.Goals as goal

pub returns : goal.returns
returns c =
    let whole = by_edges at_top c.args.tree.now ∙ ap (most (at_edge at_top)) c.folders_of.ensures.tree in
    omega (arith, whole, c.max.ensures, c.nested_in_folder.ensures, c.nested_in_folder-2.ensures)
