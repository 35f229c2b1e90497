use Rattle.std.proofs.Common.{◌<◌, Bool, All, length, sym, subst, ◌∙◌}
use mathlib.Core.Bool.{true≢false}
use Rattle.hm_types_forms.specs.Forms.{Form, form}
use Rattle.hm_types_rules.specs.Typing.{IsList, BeginsWith}
use Rattle.hm_types_views.specs.Lists.{IsPart, IsListKind}
use Rattle.hm_types_table.specs.Tables.{seat}
use Rattle.hm_types_views.proofs.ListRead.{at_none, shapes_some, list_kind, list_item, list_rest, is_list}
use Rattle.hm_types_views.proofs.listing.list_at.Goals as goal

pub returns-then-not-is_list-clause-list : goal.returns-then-not-is_list-clause-list
returns-then-not-is_list-clause-list c x b l =
    true≢false (sym (c.is_list.ensures.1
    (list_kind c.args.table.now c.at.ensures.formed c.args.id c.at.result.0.now c.at.result.1.now c.at.ensures.node x b l)) ∙ c.if-not-is_list.true)

pub returns-in_err-first-clause-list : goal.returns-in_err-first-clause-list
returns-in_err-first-clause-list c =
    let k = c.at.result.0.now in
    let v = c.at.result.1.now in
    let u = form c.args.table.now c.args.id in
    at_none c.from_residual.result ((x : Form) (b : Bool) → ¬ (IsList u x b)) (λ p. IsList u (form c.args.table.now p.0) p.1) c.from_residual.ensures
    (λ x b l. c.in_err-first.ensures.item (seat k v) c.at.ensures.node
    (list_item c.args.table.now c.at.ensures.formed c.args.id k v c.at.ensures.node x b l))

pub returns-then-not-same-clause-list : goal.returns-then-not-same-clause-list
returns-then-not-same-clause-list c x b l =
    let k = c.at.result.0.now in
    let v = c.at.result.1.now in
    true≢false (sym (c.same.ensures.1 (list_rest c.args.table.now c.at.ensures.formed c.args.id k v c.at.ensures.node x b l c.in_ok-first.rest
    (c.in_ok-first.ensures.rest (seat k v) c.at.ensures.node))) ∙ c.if-not-same.true)

pub begins_empty-requires-clause-some : goal.begins_empty-requires-clause-some
begins_empty-requires-clause-some c =
    subst (λ shapes. 0 < length shapes) (sym c.deref.ensures.value)
    (shapes_some c.args.table.now c.at.ensures.formed c.args.id c.at.result.0.now c.at.result.1.now c.at.ensures.node)

pub begins_empty-requires-clause-parts : goal.begins_empty-requires-clause-parts
begins_empty-requires-clause-parts c =
    let kind : IsListKind c.at.result.0.now = c.is_list.ensures.0 c.if-not-is_list.false in
    subst (All IsPart) (sym c.deref.ensures.value) kind.shapes

pub returns-clause-list : goal.returns-clause-list
returns-clause-list c =
    let k = c.at.result.0.now in
    let v = c.at.result.1.now in
    is_list c.args.table.now c.at.ensures.formed c.args.id k v c.at.ensures.node (c.is_list.ensures.0 c.if-not-is_list.false)
    (c.in_ok-first.ensures.item (seat k v) c.at.ensures.node) c.in_ok-first.first c.in_ok-first.rest
    (c.in_ok-first.ensures.first (seat k v) c.at.ensures.node) (c.in_ok-first.ensures.rest (seat k v) c.at.ensures.node)
    (c.same.ensures.0 c.if-not-same.false) c.begins_empty.result
    (subst (λ shapes. BeginsWith shapes c.begins_empty.result) c.deref.ensures.value c.begins_empty.ensures)
