use Rattle.std.proofs.Common.{Bool, sym, ◌∙◌}
use mathlib.Core.Bool.{true≢false}
use Rattle.hm_types_forms.specs.Forms.{Form, form}
use Rattle.hm_types_rules.specs.Typing.{IsItems}
use Rattle.hm_types_table.specs.Tables.{seat}
use Rattle.hm_types_views.proofs.ListRead.{at_none, items_kind, kind_item, items_list, items_same, is_items}
use Rattle.hm_types_views.proofs.listing.some_at.Goals as goal

pub returns-then-not-has_items-clause-items : goal.returns-then-not-has_items-clause-items
returns-then-not-has_items-clause-items c x b l =
    true≢false (sym (c.has_items.ensures.1
    (items_kind c.args.table.now c.at.ensures.formed c.args.id c.at.result.0.now c.at.result.1.now c.at.ensures.node x b l)) ∙ c.if-not-has_items.true)

pub returns-in_err-first-clause-items : goal.returns-in_err-first-clause-items
returns-in_err-first-clause-items c =
    let k = c.at.result.0.now in
    let v = c.at.result.1.now in
    let nodes = c.args.table.now in
    at_none c.from_residual.result ((x : Form) (b : Bool) → ¬ (IsItems (form nodes c.args.id) x b))
    (λ p. IsItems (form nodes c.args.id) (form nodes p.0) p.1) c.from_residual.ensures
    (λ x b l. c.in_err-first.ensures.item (seat k v) c.at.ensures.node
    (kind_item nodes c.at.ensures.formed c.args.id k v c.at.ensures.node (items_kind nodes c.at.ensures.formed c.args.id k v c.at.ensures.node x b l)))

pub returns-in_err-item-clause-items : goal.returns-in_err-item-clause-items
returns-in_err-item-clause-items c =
    let k = c.at.result.0.now in
    let v = c.at.result.1.now in
    let nodes = c.args.table.now in
    at_none c.from_residual-in_err-item.result ((x : Form) (b : Bool) → ¬ (IsItems (form nodes c.args.id) x b))
    (λ p. IsItems (form nodes c.args.id) (form nodes p.0) p.1) c.from_residual-in_err-item.ensures
    (λ x b l. c.in_err-item.ensures.list l.item b
    (items_list nodes c.at.ensures.formed c.args.id k v c.at.ensures.node x b l c.in_ok-first.rest
    (c.in_ok-first.ensures.rest (seat k v) c.at.ensures.node)))

pub returns-then-not-same-clause-items : goal.returns-then-not-same-clause-items
returns-then-not-same-clause-items c x b l =
    let k = c.at.result.0.now in
    let v = c.at.result.1.now in
    true≢false (sym (c.same.ensures.1 (items_same c.args.table.now c.at.ensures.formed c.args.id k v c.at.ensures.node x b l c.in_ok-first.first
    c.in_ok-first.rest c.in_ok-item.item (c.in_ok-first.ensures.first (seat k v) c.at.ensures.node)
    (c.in_ok-first.ensures.rest (seat k v) c.at.ensures.node) c.in_ok-item.empty_first c.in_ok-item.ensures.list)) ∙ c.if-not-same.true)

pub returns-clause-items : goal.returns-clause-items
returns-clause-items c =
    let k = c.at.result.0.now in
    let v = c.at.result.1.now in
    is_items c.args.table.now c.at.ensures.formed c.args.id k v c.at.ensures.node (c.has_items.ensures.0 c.if-not-has_items.false) c.in_ok-first.first
    c.in_ok-first.rest c.in_ok-item.item (c.in_ok-first.ensures.first (seat k v) c.at.ensures.node)
    (c.in_ok-first.ensures.rest (seat k v) c.at.ensures.node) c.in_ok-item.empty_first c.in_ok-item.ensures.list (c.same.ensures.0 c.if-not-same.false)
