use Rattle.std.proofs.Common.{sym, ◌∙◌}
use mathlib.Core.Bool.{true≢false}
use Rattle.hm_types_table.specs.declared.kind.NodeKind.{NodeKind}
use Rattle.hm_types_table.specs.Tables.{seat}
use Rattle.hm_types_table.proofs.Places.{there}
use Rattle.hm_types_views.proofs.ValueNode.{not_values, not_empty, are_values, text_faults, valued_seated, text_goes}
use Rattle.hm_types_views.proofs.values.valued.Goals as goal

pub returns-in-None-clause-valued : goal.returns-in-None-clause-valued
returns-in-None-clause-valued c T x k is =
    let n = seat c.at.result.0.now c.at.result.1.now in
    text_faults c.args.table.now c.at.ensures.formed c.args.id n c.at.ensures.node c.args.from
    (not_values c.args.table.now c.at.ensures.formed c.args.id n c.at.ensures.node c.args.from (c.in-None.ensures.values n c.at.ensures.node))
    c.args.into T x k is

pub returns-then-not-is_empty_at-clause-valued : goal.returns-then-not-is_empty_at-clause-valued
returns-then-not-is_empty_at-clause-valued c T x k is =
    let n = seat c.at.result.0.now c.at.result.1.now in
    let b = there c.args.table.now c.in-Some.below.place c.in-Some.ensures.in_range in
    text_faults c.args.table.now c.at.ensures.formed c.args.id n c.at.ensures.node c.args.from
    (not_empty c.args.table.now c.at.ensures.formed c.args.id n c.at.ensures.node c.args.from c.in-Some.below
    (c.in-Some.ensures.values n c.at.ensures.node) b.0 b.1
    (λ h. true≢false (sym ((c.is_empty_at.ensures b.0 b.1).1 h) ∙ c.if-not-is_empty_at.true)))
    c.args.into T x k is

pub add-requires-clause-well : goal.add-requires-clause-well
add-requires-clause-well c =
    let n = seat c.at.result.0.now c.at.result.1.now in
    let kind : NodeKind = record { shapes = c.in_ok-copy_shapes.field-0; names = c.new.result; twins = c.new-2.result } in
    valued_seated c.args.table.now c.at.ensures.formed c.args.id n c.at.ensures.node c.args.from c.in-Some.below c.in-Some.ensures.in_range
    (c.in-Some.ensures.values n c.at.ensures.node) c.args.into kind c.new-3.result.items
    (c.in_ok-copy_shapes.ensures ∙ c.deref.ensures.value) c.new.ensures.items c.new-2.ensures.items

pub returns-clause-valued : goal.returns-clause-valued
returns-clause-valued c T x is =
    let n = seat c.at.result.0.now c.at.result.1.now in
    let kind : NodeKind = record { shapes = c.in_ok-copy_shapes.field-0; names = c.new.result; twins = c.new-2.result } in
    let b = there c.args.table.now c.in-Some.below.place c.in-Some.ensures.in_range in
    let v = c.in-Some.ensures.values n c.at.ensures.node in
    text_goes c.args.table.now c.at.ensures.formed c.args.id n c.at.ensures.node c.args.from c.in-Some.below c.in-Some.ensures.in_range v
    c.args.into kind c.new-3.result.items (c.in_ok-copy_shapes.ensures ∙ c.deref.ensures.value) c.new.ensures.items c.new-2.ensures.items
    (are_values c.args.table.now c.at.ensures.formed c.args.id n c.at.ensures.node c.args.from c.in-Some.below v b.0 b.1
    ((c.is_empty_at.ensures b.0 b.1).0 c.if-not-is_empty_at.false))
    c.add.new.self c.in_ok-add.ensures.node c.in_ok-add.field-0 c.in_ok-add.ensures.place T x is
