use Rattle.std.proofs.Common.{◌≡◌, Any, length, get_or, sym, ap, subst, ◌∙◌}
use Rattle.std.specs.FinMap.{find}
use Rattle.std.proofs.lemmas.Option.{same_Some}
use Rattle.hm_tree.specs.Names.{name_cmp}
use Rattle.hm_schema.specs.declared.node.Shape.{Shape}
use Rattle.hm_schema.specs.Values.{NodeValue}
use Rattle.hm_tree_parts.specs.Lists.{head, tail}
use Rattle.hm_schema_lists.specs.ListNodes.{item_shape}
use Rattle.hm_types_forms.specs.Forms.{named}
use Rattle.hm_types_table.specs.Tables.{seat}
use Rattle.hm_types_table.proofs.Grown.{formed_at}
use Rattle.hm_types_forms.proofs.TidiedSteps.{next_in_range}
use Rattle.hm_types_views.proofs.ListRead.{at_none, part_listed, has_head, has_tail}
use Rattle.hm_types_views.proofs.listing.parts_at.Goals as goal

pub returns-in_err-names-clause-item : goal.returns-in_err-names-clause-item
returns-in_err-names-clause-item c n e =
    let is = same_Some (seat c.at.result.0.now c.at.result.1.now) n (sym c.at.ensures.node ∙ e) in
    at_none c.from_residual.result (¬ (Any (λ (a : Shape). a ≡ item_shape) n.shapes)) (λ p. Any (λ (a : Shape). a ≡ item_shape) n.shapes)
    c.from_residual.ensures (λ any. c.in_err-names.ensures.there
    (subst (Any (λ (a : Shape). a ≡ item_shape)) (sym (c.deref.ensures.value ∙ ap (λ (n : NodeValue). n.shapes) is)) any))

pub returns-in_err-first-clause-item : goal.returns-in_err-first-clause-item
returns-in_err-first-clause-item c n e =
    let k = c.at.result.0.now in
    let v = c.at.result.1.now in
    let is = same_Some (seat k v) n (sym c.at.ensures.node ∙ e) in
    let name : c.index-names-0.result ≡ head = c.index-names-0.is ∙ ap (λ l. get_or l 0 c.index-names-0.result) c.in_ok-names.ensures.names in
    at_none c.from_residual-in_err-first.result (¬ (Any (λ (a : Shape). a ≡ item_shape) n.shapes)) (λ p. Any (λ (a : Shape). a ≡ item_shape) n.shapes)
    c.from_residual-in_err-first.ensures (λ any. part_listed c.args.table.now c.at.ensures.formed c.args.id k v c.at.ensures.node
    (subst (λ (n : NodeValue). Any (λ (a : Shape). a ≡ item_shape) n.shapes) (sym is) any) head has_head
    (ap (λ k. find name_cmp k (seat c.at.result.0.now c.at.result.1.now).children) (sym name)
    ∙ sym (c.child.ensures (seat k v) c.at.ensures.node) ∙ c.in_err-first.was))

pub returns-in_err-rest-clause-item : goal.returns-in_err-rest-clause-item
returns-in_err-rest-clause-item c n e =
    let k = c.at.result.0.now in
    let v = c.at.result.1.now in
    let is = same_Some (seat k v) n (sym c.at.ensures.node ∙ e) in
    let name : c.index-names-1.result ≡ tail = c.index-names-1.is ∙ ap (λ l. get_or l 1 c.index-names-1.result) c.in_ok-names.ensures.names in
    at_none c.from_residual-in_err-rest.result (¬ (Any (λ (a : Shape). a ≡ item_shape) n.shapes)) (λ p. Any (λ (a : Shape). a ≡ item_shape) n.shapes)
    c.from_residual-in_err-rest.ensures (λ any. part_listed c.args.table.now c.at.ensures.formed c.args.id k v c.at.ensures.node
    (subst (λ (n : NodeValue). Any (λ (a : Shape). a ≡ item_shape) n.shapes) (sym is) any) tail has_tail
    (ap (λ k. find name_cmp k (seat c.at.result.0.now c.at.result.1.now).children) (sym name)
    ∙ sym (c.child-2.ensures (seat k v) c.at.ensures.node) ∙ c.in_err-rest.was))

pub returns-clause-in_range : goal.returns-clause-in_range
returns-clause-in_range c =
    let n = seat c.at.result.0.now c.at.result.1.now in
    let nodes = c.args.table.now in
    let well = formed_at nodes c.args.id n c.at.ensures.formed c.at.ensures.node in (
      next_in_range (length nodes) n (named c.index-names-0.result) c.in_ok-first.first well
          (sym (c.child.ensures n c.at.ensures.node) ∙ c.in_ok-first.was),
      next_in_range (length nodes) n (named c.index-names-1.result) c.in_ok-rest.rest well
          (sym (c.child-2.ensures n c.at.ensures.node) ∙ c.in_ok-rest.was),
    )

pub returns-clause-item : goal.returns-clause-item
returns-clause-item c n e =
    let is = same_Some (seat c.at.result.0.now c.at.result.1.now) n (sym c.at.ensures.node ∙ e) in
    subst (λ (n : NodeValue). Any (λ (a : Shape). a ≡ item_shape) n.shapes) is
    (subst (Any (λ (a : Shape). a ≡ item_shape)) c.deref.ensures.value c.in_ok-names.ensures.there)
