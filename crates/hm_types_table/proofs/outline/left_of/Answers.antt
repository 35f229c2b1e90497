use Rattle.std.proofs.Common.{cond, None, ap, ◌∙◌}
use Rattle.std.specs.List.{list_any}
use Rattle.hm_schema.specs.Values.{node_value}
use Rattle.hm_schema.specs.Tidied.{lets_in}
use Rattle.hm_types_table.specs.Classes.{left}
use Rattle.hm_types_table.proofs.Outlines.{label_left}
use Rattle.hm_types_table.proofs.outline.left_of.Goals as goal

pub returns : goal.returns
returns c =
    let k = c.args.kind.now in
    let all = c.some_lets_in-lets_in.ensures ∙ ap (list_any lets_in) c.deref.ensures.value in
    label_left k c.args.class (node_value (record {
      shapes = c.in_ok-copy_shapes.field-0;
      children = c.in_ok-children_left.field-0;
      other = c.other_left.result;
      twins = c.in_ok-copy_pairs.field-0;
    })) c.args.standing.now (c.in_ok-copy_shapes.ensures ∙ c.deref-2.ensures.value) (c.in_ok-copy_pairs.ensures ∙ c.deref-4.ensures.value)
    c.requires
    (c.in_ok-children_left.ensures ∙ (λ t. left (all t) c.args.standing.now (c.deref-3.ensures.value t)))
    (c.other_left.ensures ∙ ap (λ b. cond b c.args.class None) all)
