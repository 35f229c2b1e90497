use Rattle.std.proofs.Common.{◌+◌, ◌++◌, ◌∷◌, [], cond, None, length, sym, ap, subst, ◌∙◌, arith}
use Rattle.hm_schema.specs.WellFormed.{IsWellFormedNode}
use Rattle.hm_types_forms.specs.Forms.{form}
use Rattle.hm_types_rules.specs.Typing.{list_shapes, list_form, items_form}
use Rattle.hm_schema_lists.specs.ListNodes.{item_shape}
use Rattle.hm_types_table.specs.Tables.{seated}
use Rattle.hm_types_views.proofs.ListAdded.{pair_is, list_well, some_well, both_stand, list_added, items_added}
use Rattle.hm_types_views.proofs.TwoAdded.{add_length}
use Rattle.hm_types_views.proofs.listing.list_of.Goals as goal

pub add_loop-requires-clause-stand : goal.add_loop-requires-clause-stand
add_loop-requires-clause-stand c = both_stand c.args.items.now.empty_first c.in_ok-list_kind.field-0.shapes.items c.in_ok-list_kind.field-0.names.items
    (c.in_ok-list_kind.ensures.shapes ∙ c.in_ok-shapes.ensures) c.in_ok-list_kind.ensures.names

pub add_loop-requires-clause-well : goal.add_loop-requires-clause-well
add_loop-requires-clause-well c loop here =
    let k = c.in_ok-list_kind in
    let b = c.args.items.now.empty_first in
    subst (IsWellFormedNode (length c.args.table.now + 1)) (sym (pair_is k.field-0 (c.args.view ∷ loop ∷ []) (list_shapes b) c.args.view loop
    (k.ensures.shapes ∙ c.in_ok-shapes.ensures) k.ensures.names k.ensures.twins (λ i. c.args.view ∷ loop ∷ [])))
    (list_well (length c.args.table.now + 1) b c.args.view loop (omega (arith, c.requires)) (omega (arith, here)))

pub returns-then-not-items-clause-list : goal.returns-then-not-items-clause-list
returns-then-not-items-clause-list c =
    let k = c.in_ok-list_kind in
    let old = c.args.table.now in
    let loop = c.in_ok-list.list in
    let b = c.args.items.now.empty_first in
    list_added old c.at.ensures.formed c.args.view c.requires b loop c.in_ok-list.ensures.place c.add_loop.new.self
    (c.in_ok-list.ensures.node ∙ ap (λ x. old ++ x ∷ []) (pair_is k.field-0 (c.args.view ∷ loop ∷ []) (list_shapes b) c.args.view loop
    (k.ensures.shapes ∙ c.in_ok-shapes.ensures) k.ensures.names k.ensures.twins (λ i. c.args.view ∷ loop ∷ [])))
    c.in_ok-list.list c.in_ok-list.ensures.place
    ∙ sym (ap (λ s. cond s (items_form b (form old c.args.view)) (list_form b (form old c.args.view))) c.if-not-items.true)

pub add-requires-clause-well : goal.add-requires-clause-well
add-requires-clause-well c =
    let k = c.in_ok-list_kind-2 in
    let new = c.add_loop.new.self in
    let loop = c.in_ok-list.list in
    let less = add_length c.args.table.now new (seated c.in_ok-list_kind.field-0 (c.args.view ∷ loop ∷ []) None) c.in_ok-list.ensures.node in
    subst (IsWellFormedNode (length new)) (sym (pair_is k.field-0 c.in_ok-next.next.items (item_shape ∷ []) c.args.view c.in_ok-list.list
    (k.ensures.shapes ∙ c.in_ok-shapes-2.ensures.items ∙ ap (λ a. a ∷ []) c.in_ok-item.ensures) k.ensures.names k.ensures.twins c.in_ok-next.ensures.items))
    (some_well (length new) c.args.view c.in_ok-list.list (omega (arith, c.requires, less)) (omega (arith, c.in_ok-list.ensures.place, less)))

pub returns-clause-list : goal.returns-clause-list
returns-clause-list c =
    let k = c.in_ok-list_kind in
    let l = c.in_ok-list_kind-2 in
    let old = c.args.table.now in
    let new = c.add_loop.new.self in
    let loop = c.in_ok-list.list in
    let b = c.args.items.now.empty_first in
    items_added old c.at.ensures.formed c.args.view c.requires b loop c.in_ok-list.ensures.place new
    (c.in_ok-list.ensures.node ∙ ap (λ x. old ++ x ∷ []) (pair_is k.field-0 (c.args.view ∷ loop ∷ []) (list_shapes b) c.args.view loop
    (k.ensures.shapes ∙ c.in_ok-shapes.ensures) k.ensures.names k.ensures.twins (λ i. c.args.view ∷ loop ∷ [])))
    c.in_ok-list.ensures.formed c.in_ok-list.list c.in_ok-list.ensures.place c.add.new.self
    (c.in_ok-add.ensures.node ∙ ap (λ x. new ++ x ∷ []) (pair_is l.field-0 c.in_ok-next.next.items (item_shape ∷ []) c.args.view c.in_ok-list.list
    (l.ensures.shapes ∙ c.in_ok-shapes-2.ensures.items ∙ ap (λ a. a ∷ []) c.in_ok-item.ensures) l.ensures.names l.ensures.twins c.in_ok-next.ensures.items))
    c.in_ok-add.field-0 c.in_ok-add.ensures.place
    ∙ sym (ap (λ s. cond s (items_form b (form old c.args.view)) (list_form b (form old c.args.view))) c.if-not-items.false)
