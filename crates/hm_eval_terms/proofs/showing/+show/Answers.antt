use Rattle.std.proofs.Common.{rules, refl, sym, ap}
use Rattle.std.proofs.lemmas.Iterator.Adapters.{YieldsList-from_vec}
use Rattle.std.proofs.lemmas.Result.{IfOk-weaker}
use Rattle.hm_terms.specs.Programs.{lens_of}
use Rattle.hm_eval_terms.proofs.Paired.{none_paired, more_paired, next_at, all_taken}
use Rattle.hm_eval_terms.proofs.OnChildren.{on_children, child_shown, shown_edges, children_show, shown_by_lens, shown_by_none}
use Rattle.hm_terms.proofs.Terms.{row_sequence, row_fork, row_items}
use Rattle.hm_eval_terms.proofs.ShowSteps.{fewer, same_shown, same_shows, row_shows, first_shown, second_shown, plunge_shows, inside_shown, outside_shown, apart_shown, fork_shows, branch_shown, branch_shows, called_shown, call_shows, items_list, item_shown, items_show}
use Rattle.hm_terms.specs.Shown.{by_sequence}
use Rattle.hm_eval_terms.proofs.Renamed.{renamed_there, renamed_free, renamed_shows}
use Rattle.hm_eval_terms.proofs.showing.+show.Goals.{in-Some-lens+in_ok-view-in-Some-lens, in-None-lens}
use Rattle.hm_eval_terms.proofs.showing.+show.Goals as goal

-- ---- another name in place of one

pub renamed-requires-clause-there : goal.renamed-requires-clause-there
renamed-requires-clause-there g t c = renamed_there _ _ _ _ _ c.in-Some.ensures c.requires.shown

pub renamed-requires-clause-free : goal.renamed-requires-clause-free
renamed-requires-clause-free g t c = renamed_free _ _ _ _ _ c.in-Some.ensures c.requires.shown

pub returns-in-Some : goal.returns-in-Some
returns-in-Some g t c = IfOk-weaker _ _ _ (renamed_shows _ _ _ _ _ c.in-Some.ensures c.requires.shown) c.renamed.ensures

-- ---- lenses without lenses inside, and calls

pub returns-in_ok-under-in-Plunge : goal.returns-in_ok-under-in-Plunge
returns-in_ok-under-in-Plunge g t c = plunge_shows _ _ _ _ _ _ (ap lens_of c.in-Plunge.is) c.in_ok-copy-in-Plunge.ensures.value c.in_ok-under-in-Plunge.ensures

pub show_text-requires : goal.show_text-requires
show_text-requires g t c = same_shown _ _ _ _ (sym (ap lens_of c.in-Text.is)) c.requires.shown

pub returns-in-Text : goal.returns-in-Text
returns-in-Text g t c = row_shows _ _ _ _ _ (sym (ap lens_of c.in-Text.is)) c.show_text.ensures

pub show-requires : goal.show-requires
show-requires g t c = (
  fewer c.args.levels t c.decreases c.if-levels-eq0.false,
  (c.requires.index, called_shown _ _ _ _ _ (ap lens_of c.in-Call.is) c.body.ensures c.requires.shown),
)

pub returns-in-Call : goal.returns-in-Call
returns-in-Call g t c = IfOk-weaker _ _ _ (λ v. call_shows _ _ _ _ _ v (ap lens_of c.in-Call.is) c.body.ensures) c.show.ensures

pub show-requires-in-ByConcrete : goal.show-requires-in-ByConcrete
show-requires-in-ByConcrete g t c = (
  fewer c.args.levels t c.decreases c.if-levels-eq0.false,
  (
    c.requires.index,
    branch_shown _ _ _ _ _ _ _ _ _ c.in-ByConcrete.is c.chosen.ensures (ap lens_of c.deref-in-ByConcrete.ensures)
        (ap lens_of c.deref-in-ByConcrete-2.ensures) c.requires.shown,
  ),
)

pub returns-in-ByConcrete : goal.returns-in-ByConcrete
returns-in-ByConcrete g t c =
    IfOk-weaker _ _ _ (λ v. branch_shows _ _ _ _ _ _ _ _ _ v c.in-ByConcrete.is c.chosen.ensures (ap lens_of c.deref-in-ByConcrete.ensures)
    (ap lens_of c.deref-in-ByConcrete-2.ensures)) c.show-in-ByConcrete.ensures

-- ---- sequence

pub show-requires-in-Seq : goal.show-requires-in-Seq
show-requires-in-Seq g t c =
    (fewer c.args.levels t c.decreases c.if-levels-eq0.false, (c.requires.index, first_shown _ _ _ _ (same_shown _ _ _ _ (row_sequence c.in-Seq.is c.deref.ensures refl) c.requires.shown)))

pub show-requires-in-Seq-2 : goal.show-requires-in-Seq-2
show-requires-in-Seq-2 g t c = (
  fewer c.args.levels t c.decreases c.if-levels-eq0.false,
  (
    c.requires.index,
    second_shown _ _ _ _ _ (same_shown _ _ _ _ (row_sequence c.in-Seq.is c.deref.ensures c.deref-in-Seq.ensures) c.requires.shown) c.in_ok-middle-in-Seq.ensures,
  ),
)

pub returns-in_ok-middle-in-Seq : goal.returns-in_ok-middle-in-Seq
returns-in_ok-middle-in-Seq g t c =
    row_shows _ _ _ _ _ (row_sequence c.in-Seq.is c.deref.ensures c.deref-in-Seq.ensures)
    (IfOk-weaker _ _ _ (λ v. by_sequence c.in_ok-middle-in-Seq.ensures) c.show-in-Seq-2.ensures)

-- ---- fork

pub show-requires-in-Fork : goal.show-requires-in-Fork
show-requires-in-Fork g t c = (
  fewer c.args.levels t c.decreases c.if-levels-eq0.false,
  (
    c.requires.index,
    inside_shown _ _ _ _ _ _ _ c.in_ok-within-in-Fork.ensures (same_shown _ _ _ _ (row_fork c.in-Fork.is c.deref-in-Fork.ensures refl) c.requires.shown),
  ),
)

pub show-requires-in-Fork-2 : goal.show-requires-in-Fork-2
show-requires-in-Fork-2 g t c = (
  fewer c.args.levels t c.decreases c.if-levels-eq0.false,
  (
    c.requires.index,
    outside_shown _ _ _ _ _ _ _ c.in_ok-within-in-Fork.ensures
        (same_shown _ _ _ _ (row_fork c.in-Fork.is c.deref-in-Fork.ensures c.deref-in-Fork-2.ensures) c.requires.shown),
  ),
)

pub join-requires : goal.join-requires
join-requires g t c =
    apart_shown _ _ _ _ _ _ _ c.in_ok-within-in-Fork.ensures _ _
    (same_shown _ _ _ _ (row_fork c.in-Fork.is c.deref-in-Fork.ensures c.deref-in-Fork-2.ensures) c.requires.shown) c.in_ok-one-in-Fork.ensures c.in_ok-two-in-Fork.ensures

pub returns-in_ok-join-in-Fork : goal.returns-in_ok-join-in-Fork
returns-in_ok-join-in-Fork g t c =
    same_shows _ _ _ _ _ (row_fork c.in-Fork.is c.deref-in-Fork.ensures c.deref-in-Fork-2.ensures)
    (fork_shows _ _ _ _ _ _ _ c.in_ok-within-in-Fork.ensures _ _ _ c.in_ok-one-in-Fork.ensures c.in_ok-two-in-Fork.ensures c.in_ok-join-in-Fork.ensures)

-- ---- items

pub into_items-requires : goal.into_items-requires
into_items-requires g t c = items_list _ _ _ (same_shown _ _ _ _ (row_items c.in-List.is refl) c.requires.shown)

pub loop-item-init : goal.loop-item-init
loop-item-init g t c = none_paired _ c.new-views.ensures.items

pub show-requires-in-loop-item : goal.show-requires-in-loop-item
show-requires-in-loop-item g t c =
    let all = c.in_ok-item-items-in-List.item-items.items in
    let road = YieldsList-from_vec {s = c.into_iter-item-iterator.result} all (search rules) (search rules) in (
      fewer c.args.levels t c.decreases c.if-levels-eq0.false,
      (
        c.requires.index,
        item_shown _ _ _ _ _ _ c.in_ok-item-items-in-List.ensures
            (next_at all road c.loop-item.yielded c.loop-item.item-iterator c.loop-item.yielded_by c.next.result c.next.new.self c.next.ensures.steps _
            c.in-Some-item.is)
            (same_shown _ _ _ _ (row_items c.in-List.is c.deref-in-loop-item.ensures) c.requires.shown),
      ),
    )

pub loop-item-preserved : goal.loop-item-preserved
loop-item-preserved g t c =
    more_paired _ _ _ _ _ c.loop-item.invariant (same_shows _ _ _ _ _ (ap lens_of c.deref-in-loop-item.ensures) c.in_ok-show-in-List.ensures) c.in_ok-push-in-List.ensures.items

pub returns-in_ok-list_build-in-List : goal.returns-in_ok-list_build-in-List
returns-in_ok-list_build-in-List g t c =
    let all = c.in_ok-item-items-in-List.item-items.items in
    let road = YieldsList-from_vec {s = c.into_iter-item-iterator.result} all (search rules) (search rules) in
    same_shows _ _ _ _ _ (row_items c.in-List.is refl)
    (items_show _ _ _ _ _ _ _ c.in_ok-item-items-in-List.ensures
    (all_taken all road c.loop-item.yielded c.loop-item.item-iterator c.loop-item.yielded_by c.next.result c.next.new.self c.next.ensures.steps c.in-None.is)
    c.loop-item.invariant c.in_ok-list_build-in-List.ensures)

-- ---- children

pub loop-name-init : goal.loop-name-init
loop-name-init g t c = none_paired _ c.in_ok-edges-in-Map.ensures.items

pub show-requires-in-Some-lens : goal.show-requires-in-Some-lens
show-requires-in-Some-lens g t c =
    let all = c.in_ok-items-in-Map.items.items in
    let road = YieldsList-from_vec {s = c.into_iter-name-iterator.result} all (search rules) (search rules) in (
      fewer c.args.levels t c.decreases c.if-levels-eq0.false,
      (
        c.requires.index,
        child_shown _ _ _ _ (on_children _ c.in-Map.is) c.in_ok-items-in-Map.ensures _ c.in-Some-2.name c.in-Some-2.child _
            (next_at all road c.loop-name.yielded c.loop-name.name-iterator c.loop-name.yielded_by c.next-in-loop-name.result c.next-in-loop-name.new.self
            c.next-in-loop-name.ensures.steps _ c.in-Some-2.is)
            c.in-Some-lens.is c.requires.shown,
      ),
    )

pub loop-name-preserved : goal.loop-name-preserved
loop-name-preserved g t c =
    more_paired _ _ _ (c.in-Some-2.name, c.in-Some-2.child) (c.in-Some-2.name, c.match-child.view) c.loop-name.invariant
    (record {
      name = refl;
      shown = elim c.match-child.branch [
        | in-Some-lens+in_ok-view-in-Some-lens w ↦ shown_by_lens _ _ _ _ _ _ w.in-Some-lens.is w.view-is w.in_ok-view-in-Some-lens.ensures
        | in-None-lens w ↦ shown_by_none _ _ _ _ w.in-None-lens.is w.view-is
      ];
    })
    c.in_ok-push-in-Map.ensures.items

pub of_edges-requires : goal.of_edges-requires
of_edges-requires g t c =
    let all = c.in_ok-items-in-Map.items.items in
    let road = YieldsList-from_vec {s = c.into_iter-name-iterator.result} all (search rules) (search rules) in
    shown_edges _ _ _ _ (on_children _ c.in-Map.is) c.in_ok-items-in-Map.ensures _ _
    (all_taken all road c.loop-name.yielded c.loop-name.name-iterator c.loop-name.yielded_by c.next-in-loop-name.result c.next-in-loop-name.new.self
    c.next-in-loop-name.ensures.steps c.in-None-2.is)
    c.loop-name.invariant

pub returns-in_ok-of_edges-in-Map : goal.returns-in_ok-of_edges-in-Map
returns-in_ok-of_edges-in-Map g t c =
    let all = c.in_ok-items-in-Map.items.items in
    let road = YieldsList-from_vec {s = c.into_iter-name-iterator.result} all (search rules) (search rules) in
    children_show _ _ _ _ (on_children _ c.in-Map.is) c.in_ok-items-in-Map.ensures _ _
    (all_taken all road c.loop-name.yielded c.loop-name.name-iterator c.loop-name.yielded_by c.next-in-loop-name.result c.next-in-loop-name.new.self
    c.next-in-loop-name.ensures.steps c.in-None-2.is)
    c.loop-name.invariant _ c.in_ok-of_edges-in-Map.ensures
