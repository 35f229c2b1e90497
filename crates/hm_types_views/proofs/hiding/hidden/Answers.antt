use Rattle.std.proofs.Common.{◌++◌, ◌∷◌, [], map, sym, ap, subst, ◌∙◌, arith}
use mathlib.Core.Bool.{true≢false}
use Rattle.std.proofs.lemmas.Option.{same_Some}
use Rattle.hm_schema.specs.WellFormed.{IsWellFormedNode}
use Rattle.hm_types_nodes.specs.Merging.{unrequired}
use Rattle.hm_schema.specs.Shapes.{shaped}
use Rattle.hm_types_views.specs.Hiding.{CanHideKind}
use Rattle.hm_types_table.specs.Tables.{seat}
use Rattle.hm_types_views.proofs.TwoAdded.{shaped_is, add_grows, add_length}
use Rattle.hm_types_views.proofs.HiddenNode.{cannot_hide, hidden_seat, hide_goes}
use Rattle.hm_types_views.proofs.hiding.hidden.Goals.{then-not-can_hide-via-then-not-can_hide, then-not-can_hide-via-else-not-can_hide+then-not-lead_to_same}
use Rattle.hm_types_views.proofs.hiding.hidden.Goals as goal

pub returns-then-not-can_hide-clause-hidden : goal.returns-then-not-can_hide-clause-hidden
returns-then-not-can_hide-clause-hidden c =
    let k = c.at.result.0.now in
    let v = c.at.result.1.now in
    cannot_hide c.args.table.now c.at.ensures.formed c.args.id k v c.at.ensures.node c.args.first.now c.args.second.now
    (λ can led. elim c.then-not-can_hide.branch [
      | then-not-can_hide-via-then-not-can_hide w ↦ true≢false (sym (c.can_hide.ensures.1 can) ∙ w.if-not-can_hide.true)
      | then-not-can_hide-via-else-not-can_hide+then-not-lead_to_same w ↦
          true≢false (sym ((w.lead_to_same.ensures (seat k v) c.at.ensures.node).1 led) ∙ w.if-not-lead_to_same.true)
    ])

pub add_shaped-requires-clause-well : goal.add_shaped-requires-clause-well
add_shaped-requires-clause-well c n e =
    let k = c.at.result.0.now in
    let v = c.at.result.1.now in
    let o = c.args.second.now in
    let can : CanHideKind c.args.first.now o k = c.can_hide.ensures.0 c.if-not-can_hide.false in
    let led = (c.lead_to_same.ensures (seat k v) c.at.ensures.node).0 c.if-not-lead_to_same.false in
    let shapes = c.in_ok-shapes.ensures ∙ ap (map (unrequired o)) c.deref.ensures.value in
    subst (IsWellFormedNode _) (sym (shaped_is n (seat k v) c.in_ok-shapes.shapes.items (map (unrequired o) k.shapes.items) c.new.result.items []
    (same_Some n (seat k v) (sym e ∙ c.at.ensures.node)) shapes c.new.ensures.items))
    (hidden_seat c.args.table.now c.at.ensures.formed c.args.id k v c.at.ensures.node c.args.first.now o can led)

pub returns-clause-extends : goal.returns-clause-extends
returns-clause-extends c =
    let n = seat c.at.result.0.now c.at.result.1.now in
    add_grows c.args.table.now c.add_shaped.new.table (shaped n c.in_ok-shapes.shapes.items c.new.result.items)
    (c.in_ok-add_shaped.ensures.node n c.at.ensures.node)

pub returns-clause-in_range : goal.returns-clause-in_range
returns-clause-in_range c =
    let n = seat c.at.result.0.now c.at.result.1.now in
    omega (
      arith,
      c.in_ok-add_shaped.ensures.place,
      add_length c.args.table.now c.add_shaped.new.table (shaped n c.in_ok-shapes.shapes.items c.new.result.items)
          (c.in_ok-add_shaped.ensures.node n c.at.ensures.node),
    )

pub returns-clause-hidden : goal.returns-clause-hidden
returns-clause-hidden c =
    let k = c.at.result.0.now in
    let v = c.at.result.1.now in
    let n = seat k v in
    let o = c.args.second.now in
    let can : CanHideKind c.args.first.now o k = c.can_hide.ensures.0 c.if-not-can_hide.false in
    let led = (c.lead_to_same.ensures (seat k v) c.at.ensures.node).0 c.if-not-lead_to_same.false in
    let shapes = c.in_ok-shapes.ensures ∙ ap (map (unrequired o)) c.deref.ensures.value in
    hide_goes c.args.table.now c.at.ensures.formed c.args.id k v c.at.ensures.node c.args.first.now o can led c.add_shaped.new.table
    (c.in_ok-add_shaped.ensures.node n c.at.ensures.node ∙ (λ i. c.args.table.now ++ shaped n (shapes i) (c.new.ensures.items i) ∷ []))
    c.in_ok-add_shaped.field-0 c.in_ok-add_shaped.ensures.place
