use Rattle.std.proofs.Common.{length, sym, ap, ◌∙◌}
use Rattle.std.specs.Option.{option_map}
use Rattle.hm_tree.specs.declared.class.Class.{Class}
use Rattle.hm_schema.specs.declared.node.NodeId.{NodeId}
use Rattle.hm_types_forms.specs.Forms.{named, others}
use Rattle.hm_types_table.specs.Tables.{seat}
use Rattle.hm_types_table.proofs.Grown.{formed_at}
use Rattle.hm_types_forms.proofs.TidiedSteps.{next_in_range}
use Rattle.hm_types_table.proofs.membership.led.Goals as goal

pub returns-in-Some-clause-in_range : goal.returns-in-Some-clause-in_range
returns-in-Some-clause-in_range c =
    let n = seat c.at.result.0.now c.at.result.1.now in
    let nodes = c.args.table.now in
    next_in_range (length nodes) n (named c.args.name.now) c.in-Some.node (formed_at nodes c.args.id n c.at.ensures.formed c.at.ensures.node)
    (sym (c.in-Some.ensures n c.at.ensures.node))

pub returns-in-Some-other-clause-in_range : goal.returns-in-Some-other-clause-in_range
returns-in-Some-other-clause-in_range c =
    let n = seat c.at.result.0.now c.at.result.1.now in
    let nodes = c.args.table.now in
    next_in_range (length nodes) n others c.in-Some-other.other.1 (formed_at nodes c.args.id n c.at.ensures.formed c.at.ensures.node)
    (ap (option_map (λ (o : Class × NodeId). o.1)) (sym (c.other.ensures n c.at.ensures.node) ∙ c.in-Some-other.is))
