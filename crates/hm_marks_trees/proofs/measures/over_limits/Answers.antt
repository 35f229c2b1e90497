use Rattle.std.proofs.Common.{◌+◌, max, ◌∙◌}
use Rattle.hm_marks_trees.specs.Nodes.{contents}
use Rattle.hm_marks_trees.proofs.NodeMeasures.{over_nested, over_deepest, not_over}
use Rattle.hm_marks_trees.proofs.measures.over_limits.Goals as goal

pub returns-then-nested-gt-MOST_FOLDERS : goal.returns-then-nested-gt-MOST_FOLDERS
returns-then-nested-gt-MOST_FOLDERS c =
    over_nested (contents c.args.bar.now) (contents c.args.other.now) c.in_ok-nested_in.ensures.texts c.in_ok-nested_in-2.ensures.texts c.max-nested.result
    (c.max-nested.ensures ∙ (λ i. max (c.in_ok-nested_in.ensures.nesting i) (c.in_ok-nested_in-2.ensures.nesting i))) c.if-nested-gt-MOST_FOLDERS.true

pub returns-then-depth-gt-DEEPEST : goal.returns-then-depth-gt-DEEPEST
returns-then-depth-gt-DEEPEST c =
    over_deepest (contents c.args.bar.now) (contents c.args.other.now) c.in_ok-nested_in.ensures.texts c.in_ok-nested_in-2.ensures.texts c.max-nested.result
    (c.max-nested.ensures ∙ (λ i. max (c.in_ok-nested_in.ensures.nesting i) (c.in_ok-nested_in-2.ensures.nesting i))) c.if-nested-gt-MOST_FOLDERS.false
    c.in_ok-depth_of.field-0 c.in_ok-depth_of-2.field-0 c.in_ok-depth.depth c.in_ok-depth_of.ensures c.in_ok-depth_of-2.ensures
    (c.in_ok-depth.ensures ∙ (λ i. c.max-deepest.ensures i + 1)) c.if-depth-gt-DEEPEST.true

pub returns-else-depth-gt-DEEPEST : goal.returns-else-depth-gt-DEEPEST
returns-else-depth-gt-DEEPEST c =
    not_over (contents c.args.bar.now) (contents c.args.other.now) c.in_ok-nested_in.ensures.texts c.in_ok-nested_in-2.ensures.texts c.max-nested.result
    (c.max-nested.ensures ∙ (λ i. max (c.in_ok-nested_in.ensures.nesting i) (c.in_ok-nested_in-2.ensures.nesting i))) c.if-nested-gt-MOST_FOLDERS.false
    c.in_ok-depth_of.field-0 c.in_ok-depth_of-2.field-0 c.in_ok-depth.depth c.in_ok-depth_of.ensures c.in_ok-depth_of-2.ensures
    (c.in_ok-depth.ensures ∙ (λ i. c.max-deepest.ensures i + 1)) c.if-depth-gt-DEEPEST.false
