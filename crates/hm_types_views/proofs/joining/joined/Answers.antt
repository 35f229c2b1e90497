use mathlib.Core.Bool.{true≢false}
use Rattle.std.proofs.Common.{◌≡◌, ◌++◌, ◌∷◌, [], All, sym, subst, ◌∙◌}
use Rattle.std.specs.List.{zip}
use Rattle.std.specs.FinMap.{find}
use Rattle.hm_tree.specs.Names.{Name, name_cmp}
use Rattle.hm_schema.specs.WellFormed.{IsWellFormedNode}
use Rattle.hm_types_nodes.specs.Joining.{joined_shapes}
use Rattle.hm_types_views.specs.Conditions.{CanJoinKinds, AddsNothing}
use Rattle.hm_types_views.specs.Overlays.{overlay}
use Rattle.hm_types_table.specs.Tables.{opened, seat}
use Rattle.hm_types_table.proofs.Forms.{node_is}
use Rattle.hm_types_views.proofs.JoinedNode.{cannot_join, adds_nothing, joined_well, fork_view}
use Rattle.hm_types_views.proofs.joining.joined.Goals as goal

pub returns-then-not-can_join-clause-joined : goal.returns-then-not-can_join-clause-joined
returns-then-not-can_join-clause-joined c =
    cannot_join c.args.table.now c.at.ensures.formed c.args.one c.args.two c.at.result.0.now c.at-2.result.0.now c.at.result.1.now c.at-2.result.1.now
    c.args.names.now c.at.ensures.node c.at-2.ensures.node c.at-2.ensures.count
    (λ can. true≢false (sym (c.can_join.ensures.1 can) ∙ c.if-not-can_join.true))

pub all_joined-requires : goal.all_joined-requires
all_joined-requires c =
    let can : CanJoinKinds c.args.names.now c.at.result.0.now c.at-2.result.0.now = c.can_join.ensures.0 c.if-not-can_join.false in
    subst (All AddsNothing) (sym c.deref.ensures.value)
    (adds_nothing c.args.table.now c.at.ensures.formed c.args.one c.at.result.0.now c.at.result.1.now c.at.ensures.node can.shut)

pub add-requires-clause-well : goal.add-requires-clause-well
add-requires-clause-well c =
    let k = c.at.result.0.now in
    let v = c.at.result.1.now in
    let l = c.at-2.result.0.now in
    let u = c.at-2.result.1.now in
    let n = seat k v in
    let m = seat l u in
    let names = c.args.names.now in
    let ks = c.in_ok-listed.listed.items in
    let js = c.in_ok-listed.next.items in
    let can : CanJoinKinds names k l = c.can_join.ensures.0 c.if-not-can_join.false in
    let shapes = c.in_ok-shapes.ensures ∙ (λ i. joined_shapes (c.deref.ensures.value i) (c.deref-2.ensures.value i)) in
    let twins = c.in_ok-twins.ensures ∙ (λ i. c.deref-7.ensures.value i ++ c.deref-8.ensures.value i) in
    let leads : (q : Name) → find name_cmp q (zip ks js) ≡ overlay names n.children m.children q = λ q. c.in_ok-listed.ensures.leads q
    ∙ (λ i. overlay names (zip (c.deref-3.ensures.value i) (c.deref-4.ensures.value i)) (zip (c.deref-5.ensures.value i) (c.deref-6.ensures.value i)) q) in
    let own = c.requires.twins (opened c.args.table.now n) (node_is c.args.table.now c.args.one n c.at.ensures.node c.at.ensures.formed) in
    subst (IsWellFormedNode _) (sym (λ i. record { shapes = shapes i; children = zip ks js; other = u.other; twins = twins i }))
    (joined_well c.args.table.now c.at.ensures.formed c.args.one c.args.two k l v u names c.at.ensures.node c.at-2.ensures.node c.at-2.ensures.count
    can ks js c.in_ok-listed.ensures.rises c.in_ok-listed.ensures.count leads own)

pub returns-clause-joined : goal.returns-clause-joined
returns-clause-joined c =
    let k = c.at.result.0.now in
    let v = c.at.result.1.now in
    let l = c.at-2.result.0.now in
    let u = c.at-2.result.1.now in
    let n = seat k v in
    let m = seat l u in
    let names = c.args.names.now in
    let ks = c.in_ok-listed.listed.items in
    let js = c.in_ok-listed.next.items in
    let can : CanJoinKinds names k l = c.can_join.ensures.0 c.if-not-can_join.false in
    let shapes = c.in_ok-shapes.ensures ∙ (λ i. joined_shapes (c.deref.ensures.value i) (c.deref-2.ensures.value i)) in
    let twins = c.in_ok-twins.ensures ∙ (λ i. c.deref-7.ensures.value i ++ c.deref-8.ensures.value i) in
    let leads : (q : Name) → find name_cmp q (zip ks js) ≡ overlay names n.children m.children q = λ q. c.in_ok-listed.ensures.leads q
    ∙ (λ i. overlay names (zip (c.deref-3.ensures.value i) (c.deref-4.ensures.value i)) (zip (c.deref-5.ensures.value i) (c.deref-6.ensures.value i)) q) in
    let own = c.requires.twins (opened c.args.table.now n) (node_is c.args.table.now c.args.one n c.at.ensures.node c.at.ensures.formed) in
    fork_view c.args.table.now c.at.ensures.formed c.args.one c.args.two k l v u names c.at.ensures.node c.at-2.ensures.node c.at-2.ensures.count
    can ks js c.in_ok-listed.ensures.rises c.in_ok-listed.ensures.count leads own c.add.new.self
    (c.in_ok-add.ensures.node ∙ (λ i. c.args.table.now ++ record { shapes = shapes i; children = zip ks js; other = u.other; twins = twins i } ∷ []))
    c.in_ok-add.field-0 c.in_ok-add.ensures.place
