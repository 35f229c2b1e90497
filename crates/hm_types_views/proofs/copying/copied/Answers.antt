use Rattle.std.proofs.Common.{rules, ◌≡◌, ◌++◌, ◌∷◌, [], map, sym, ap, subst, ◌∙◌}
use Rattle.std.specs.List.{zip}
use Rattle.hm_schema.specs.WellFormed.{IsWellFormedNode}
use Rattle.hm_types_nodes.specs.Copying.{with_required}
use Rattle.hm_types_views.specs.Overlays.{HasEdge}
use Rattle.hm_types_table.specs.Tables.{seat}
use Rattle.hm_types_views.proofs.CopiedNode.{copy_faults, copied_well, copy_goes}
use Rattle.hm_types_views.proofs.copying.copied.Goals as goal

pub returns-in_default-clause-copied : goal.returns-in_default-clause-copied
returns-in_default-clause-copied c =
    let n = seat c.at.result.0.now c.at.result.1.now in
    copy_faults c.args.table.now c.at.ensures.formed c.args.id n c.at.ensures.node c.args.first.now c.args.second.now
    (c.in_default.ensures n c.at.ensures.node)

pub add-requires-clause-well : goal.add-requires-clause-well
add-requires-clause-well c =
    let k = c.at-2.result.0.now in
    let v = c.at-2.result.1.now in
    let n = seat k v in
    let m = c.args.first.now in
    let o = c.args.second.now in
    let ks = c.in_ok-names.names.items in
    let js = c.in_ok-names.next.items in
    let can = c.in-Some.ensures n c.at-2.ensures.node in
    let shapes = c.in_ok-shapes.ensures ∙ ap (map (with_required o)) c.deref.ensures.value in
    let twins : c.in_ok-twins.twins.items ≡ (m, o) ∷ [] = search rules in
    let edge : HasEdge o c.in-Some.below n.children ks js =
    subst (λ es. HasEdge o c.in-Some.below es ks js) (λ i. zip (c.deref-2.ensures.value i) (c.deref-3.ensures.value i)) c.in_ok-names.ensures in
    subst (IsWellFormedNode _) (sym (λ i. record { shapes = shapes i; children = zip ks js; other = v.other; twins = twins i }))
    (copied_well c.args.table.now c.at-2.ensures.formed c.args.id n c.at-2.ensures.node m o can.0 c.in-Some.below can.1 ks js edge)

pub returns-clause-copied : goal.returns-clause-copied
returns-clause-copied c =
    let k = c.at-2.result.0.now in
    let v = c.at-2.result.1.now in
    let n = seat k v in
    let m = c.args.first.now in
    let o = c.args.second.now in
    let ks = c.in_ok-names.names.items in
    let js = c.in_ok-names.next.items in
    let can = c.in-Some.ensures n c.at-2.ensures.node in
    let shapes = c.in_ok-shapes.ensures ∙ ap (map (with_required o)) c.deref.ensures.value in
    let twins : c.in_ok-twins.twins.items ≡ (m, o) ∷ [] = search rules in
    let edge : HasEdge o c.in-Some.below n.children ks js =
    subst (λ es. HasEdge o c.in-Some.below es ks js) (λ i. zip (c.deref-2.ensures.value i) (c.deref-3.ensures.value i)) c.in_ok-names.ensures in
    copy_goes c.args.table.now c.at-2.ensures.formed c.args.id n c.at-2.ensures.node m o can.0 c.in-Some.below can.1 ks js edge c.add.new.self
    (c.in_ok-add.ensures.node ∙ (λ i. c.args.table.now ++ record { shapes = shapes i; children = zip ks js; other = v.other; twins = twins i } ∷ []))
    c.in_ok-add.field-0 c.in_ok-add.ensures.place
