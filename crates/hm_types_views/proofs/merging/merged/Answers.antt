use mathlib.Core.Bool.{true≢false}
use Rattle.std.proofs.Common.{rules, ◌≡◌, ◌≤◌, ◌++◌, ◌∷◌, [], length, sym, ap, subst, ◌∙◌, arith}
use Rattle.std.specs.List.{zip}
use Rattle.std.specs.Option.{option_or}
use Rattle.std.specs.FinMap.{find}
use Rattle.std.specs.FinSet.{from_list}
use Rattle.hm_tree.specs.Names.{Name, name_cmp}
use Rattle.hm_schema.specs.WellFormed.{IsWellFormedNode}
use Rattle.hm_types_nodes.specs.Merging.{merged_shapes}
use Rattle.hm_types_views.specs.Overlays.{overlay}
use Rattle.hm_types_table.specs.Tables.{seat}
use Rattle.hm_types_views.proofs.MergedNode.{cannot_merge, overlay_all, merged_seat, merge_view}
use Rattle.hm_types_views.proofs.merging.merged.Goals.{then-not-can_merge-via-then-not-can_merge, then-not-can_merge-via-else-not-can_merge+then-not-agree}
use Rattle.hm_types_views.proofs.merging.merged.Goals as goal

pub returns-then-not-can_merge-clause-merged : goal.returns-then-not-can_merge-clause-merged
returns-then-not-can_merge-clause-merged c =
    let k = c.at.result.0.now in
    let v = c.at.result.1.now in
    let l = c.at-2.result.0.now in
    let u = c.at-2.result.1.now in
    cannot_merge c.args.table.now c.at.ensures.formed c.args.one c.args.two k l v u c.args.name.now c.at.ensures.node c.at-2.ensures.node
    c.at.ensures.count c.at-2.ensures.count (λ can agree few. elim c.then-not-can_merge.branch [
      | then-not-can_merge-via-then-not-can_merge w ↦ true≢false (sym (c.can_merge.ensures.1 can) ∙ w.if-not-can_merge.true)
      | then-not-can_merge-via-else-not-can_merge+then-not-agree w ↦
          true≢false (sym ((w.agree.ensures (seat k v) (seat l u) c.at.ensures.node c.at-2.ensures.node).1 agree) ∙ w.if-not-agree.true)
    ])

pub returns-then-len-gt256-clause-merged : goal.returns-then-len-gt256-clause-merged
returns-then-len-gt256-clause-merged c =
    let k = c.at.result.0.now in
    let v = c.at.result.1.now in
    let l = c.at-2.result.0.now in
    let u = c.at-2.result.1.now in
    let o = c.args.name.now in
    let shapes = c.in_ok-shapes.ensures ∙ (λ i. merged_shapes o (c.deref.ensures.value i) (c.deref-2.ensures.value i)) in
    let size : c.len.result ≡ length c.in_ok-shapes.shapes.items = search rules in
    cannot_merge c.args.table.now c.at.ensures.formed c.args.one c.args.two k l v u o c.at.ensures.node c.at-2.ensures.node
    c.at.ensures.count c.at-2.ensures.count (λ can agree few. absurd (omega (arith, few, size, ap length shapes, c.if-len-gt256.true)))

pub add-requires-clause-well : goal.add-requires-clause-well
add-requires-clause-well c =
    let k = c.at.result.0.now in
    let v = c.at.result.1.now in
    let l = c.at-2.result.0.now in
    let u = c.at-2.result.1.now in
    let n = seat k v in
    let m = seat l u in
    let o = c.args.name.now in
    let ks = c.in_ok-names.names.items in
    let js = c.in_ok-names.next.items in
    let shapes = c.in_ok-shapes.ensures ∙ (λ i. merged_shapes o (c.deref.ensures.value i) (c.deref-2.ensures.value i)) in
    let size : c.len.result ≡ length c.in_ok-shapes.shapes.items = search rules in
    let few : length (merged_shapes o k.shapes.items l.shapes.items) ≤ 256 = omega (arith, size, ap length shapes, c.if-len-gt256.false) in
    let all : c.in_ok-all.all ≡ from_list {R = name_cmp} k.names.items =
    c.in_ok-all.ensures ∙ ap (from_list {R = name_cmp}) (c.in_ok-copies.ensures ∙ c.deref-3.ensures.value) in
    let leads : (q : Name) → find name_cmp q (zip ks js) ≡ option_or (find name_cmp q n.children) (find name_cmp q m.children) = λ q. c.in_ok-names.ensures.leads q
    ∙ (λ i. overlay (all i) (zip (c.deref-4.ensures.value i) (c.deref-5.ensures.value i)) (zip (c.deref-6.ensures.value i) (c.deref-7.ensures.value i)) q)
    ∙ overlay_all k.names.items v.next.items m.children c.at.ensures.count q in
    let can = c.can_merge.ensures.0 c.if-not-can_merge.false in
    let agree = (c.agree.ensures n m c.at.ensures.node c.at-2.ensures.node).0 c.if-not-agree.false in
    subst (IsWellFormedNode _) (sym (λ i. record { shapes = shapes i; children = zip ks js; other = c.or-other.ensures i; twins = c.new.ensures.items i }))
    (merged_seat c.args.table.now c.at.ensures.formed c.args.one c.args.two k l v u o c.at.ensures.node c.at-2.ensures.node c.at.ensures.count
    c.at-2.ensures.count can agree few ks js c.in_ok-names.ensures.rises c.in_ok-names.ensures.count leads)

pub returns-clause-merged : goal.returns-clause-merged
returns-clause-merged c =
    let k = c.at.result.0.now in
    let v = c.at.result.1.now in
    let l = c.at-2.result.0.now in
    let u = c.at-2.result.1.now in
    let n = seat k v in
    let m = seat l u in
    let o = c.args.name.now in
    let ks = c.in_ok-names.names.items in
    let js = c.in_ok-names.next.items in
    let shapes = c.in_ok-shapes.ensures ∙ (λ i. merged_shapes o (c.deref.ensures.value i) (c.deref-2.ensures.value i)) in
    let size : c.len.result ≡ length c.in_ok-shapes.shapes.items = search rules in
    let few : length (merged_shapes o k.shapes.items l.shapes.items) ≤ 256 = omega (arith, size, ap length shapes, c.if-len-gt256.false) in
    let all : c.in_ok-all.all ≡ from_list {R = name_cmp} k.names.items =
    c.in_ok-all.ensures ∙ ap (from_list {R = name_cmp}) (c.in_ok-copies.ensures ∙ c.deref-3.ensures.value) in
    let leads : (q : Name) → find name_cmp q (zip ks js) ≡ option_or (find name_cmp q n.children) (find name_cmp q m.children) = λ q. c.in_ok-names.ensures.leads q
    ∙ (λ i. overlay (all i) (zip (c.deref-4.ensures.value i) (c.deref-5.ensures.value i)) (zip (c.deref-6.ensures.value i) (c.deref-7.ensures.value i)) q)
    ∙ overlay_all k.names.items v.next.items m.children c.at.ensures.count q in
    let can = c.can_merge.ensures.0 c.if-not-can_merge.false in
    let agree = (c.agree.ensures n m c.at.ensures.node c.at-2.ensures.node).0 c.if-not-agree.false in
    merge_view c.args.table.now c.at.ensures.formed c.args.one c.args.two k l v u o c.at.ensures.node c.at-2.ensures.node c.at.ensures.count
    c.at-2.ensures.count can agree few ks js c.in_ok-names.ensures.rises c.in_ok-names.ensures.count leads c.add.new.self
    (c.in_ok-add.ensures.node ∙ (λ i. c.args.table.now
    ++ record { shapes = shapes i; children = zip ks js; other = c.or-other.ensures i; twins = c.new.ensures.items i } ∷ []))
    c.in_ok-add.field-0 c.in_ok-add.ensures.place
