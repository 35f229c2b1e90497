use Rattle.std.proofs.Common.{rules, ◌≡◌, map, Some, length, refl, sym, ap, ◌∙◌}
use Rattle.std.proofs.lemmas.List.{take_all}
use Rattle.std.proofs.lemmas.Option.{slice_get_read}
use Rattle.std.specs.List.{zip}
use Rattle.std.specs.FinSet.{from_list}
use Rattle.hm_tree.specs.Names.{name_cmp}
use Rattle.hm_types_views.specs.Overlays.{overlay}
use Rattle.hm_types_views.proofs.Overlaid.{leads_at, overlaid_all, mapped_length, mapped_more}
use Rattle.hm_types_views.proofs.overlays.overlaid.Goals as goal

pub loop-name-init : goal.loop-name-init
loop-name-init c = ap (map Some) c.new-next.ensures.items

pub unreachable-requires : goal.unreachable-requires
unreachable-requires c =
    let at = slice_get_read c.deref-name-items.result.now _ c.loop-name.name-index c.name-item.result refl (search rules) c.name-item.is in
    leads_at c.args.names.now c.args.ones.now c.args.twos.now c.args.one_next.now c.args.two_next.now c.requires.one_count c.requires.two_count
    c.deref-name-items.result.now c.in_ok-both.field-0 (ap (from_list {R = name_cmp}) c.deref-name-items.ensures.value ∙ c.into_names-all.ensures.same) c.in_ok-both.ensures
    c.loop-name.name-index c.name-item.result at (sym c.laid.ensures ∙ c.in-None.is)

pub loop-name-preserved : goal.loop-name-preserved
loop-name-preserved c = mapped_more (overlay c.args.names.now (zip c.args.ones.now c.args.one_next.now) (zip c.args.twos.now c.args.two_next.now))
    c.deref-name-items.result.now c.loop-name.name-index c.name-item.result c.loop-name.next.items c.push.new.self.items c.in-Some.node (search rules)
    c.name-item.is c.loop-name.invariant (sym c.laid.ensures ∙ c.in-Some.is) c.in_ok-push-in-Some.ensures.items

pub returns-clause-count : goal.returns-clause-count
returns-clause-count c =
    let l = overlay c.args.names.now (zip c.args.ones.now c.args.one_next.now) (zip c.args.twos.now c.args.two_next.now) in
    let ks = c.deref-name-items.result.now in
    mapped_length l ks c.loop-name.next.items (c.loop-name.invariant ∙ ap (map l) (take_all c.loop-name.name-index ks (search rules)))
    ∙ ap length c.deref-name-items.ensures.value

pub returns-clause-leads : goal.returns-clause-leads
returns-clause-leads c k =
    let l = overlay c.args.names.now (zip c.args.ones.now c.args.one_next.now) (zip c.args.twos.now c.args.two_next.now) in
    let ks = c.into_names-all.result.items in
    let is = c.deref-name-items.ensures.value in
    let e : map Some c.loop-name.next.items ≡ map l ks = c.loop-name.invariant
    ∙ ap (map l) (take_all c.loop-name.name-index c.deref-name-items.result.now (search rules) ∙ is) in
    overlaid_all c.args.names.now c.args.ones.now c.args.twos.now c.args.one_next.now c.args.two_next.now c.requires.one_count c.requires.two_count
    ks c.in_ok-both.field-0 c.into_names-all.ensures.same c.in_ok-both.ensures c.loop-name.next.items e k
