use Rattle.std.proofs.Common.{rules, refl, ap, deque_items, ◌∙◌}
use Rattle.std.proofs.lemmas.Iterator.Adapters.{YieldsList-from_vec}
use Rattle.std.proofs.lemmas.Result.{IfOk-weaker}
use Rattle.hm_terms.specs.Programs.{lens_of}
use Rattle.hm_terms.proofs.Terms.{row_items}
use Rattle.hm_eval_terms.proofs.Paired.{next_at, next_cut, all_taken}
use Rattle.hm_eval_terms.proofs.OnChildren.{on_children}
use Rattle.hm_eval_terms.proofs.ShowSteps.{fewer}
use Rattle.hm_eval_terms.proofs.PutSteps.{same_put, same_puts, called_put, call_puts}
use Rattle.hm_eval_terms.proofs.PutItems.{items_list, none_put, old_list, item_put, one_put_more, items_puts}
use Rattle.hm_eval_terms.proofs.PutChildren.{none_put as none_under, none_left, more_put, more_left, next_before, child_put, put_edges, children_put, put_by_lens, put_by_none}
use Rattle.hm_eval_terms.proofs.BackSteps.{same_back, called_back, back_list, item_back, others_back, child_back}
use Rattle.hm_eval_terms.proofs.changes.+put_changed.Goals.{in-Some-lens+in_ok-tree-in-Some-lens, in-None-lens}
use Rattle.hm_eval_terms.proofs.changes.+put_changed.Goals as goal

-- ---- call

pub put_changed-requires : goal.put_changed-requires
put_changed-requires g t c = (
  fewer c.args.levels t c.decreases c.if-levels-eq0.false,
  (
    c.requires.index,
    (
      called_put _ _ _ _ _ _ (ap lens_of c.in-Call.is) c.body-inner.ensures c.requires.put,
      called_back _ _ _ _ _ _ (ap lens_of c.in-Call.is) c.body-inner.ensures c.requires.back,
    ),
  ),
)

pub returns-in-Call : goal.returns-in-Call
returns-in-Call g t c =
    IfOk-weaker _ _ _ (λ v. call_puts _ _ _ _ _ _ v (ap lens_of c.in-Call.is) c.body-inner.ensures) c.put_changed.ensures

-- ---- items

pub into_items-requires : goal.into_items-requires
into_items-requires g t c = items_list _ _ _ _ (same_put _ _ _ _ _ (row_items c.in-List.is refl) c.requires.put)

pub loop-item-init : goal.loop-item-init
loop-item-init g t c = record {
  put = none_put _ _ _ _ (same_put _ _ _ _ _ (row_items c.in-List.is refl) c.requires.put) _ c.new-made.ensures.items;
  back = same_back _ _ _ _ _ (row_items c.in-List.is refl) c.requires.back;
}

pub item_before-first-requires : goal.item_before-first-requires
item_before-first-requires g t c =
    let all = c.in_ok-item-items-in-List.item-items.items in
    let road = YieldsList-from_vec {s = c.into_iter-item-iterator.result} all (search rules) (search rules) in
    let w = next_cut all road c.loop-item.yielded c.loop-item.item-iterator c.loop-item.yielded_by c.next.result c.next.new.self c.next.ensures.steps _
    c.in-Some.is in
    old_list _ _ _ _ (same_put _ _ _ _ _ (row_items c.in-List.is refl) c.requires.put) all c.in_ok-item-items-in-List.ensures _ _ _ w.1 _ _ c.loop-item.invariant.put

pub item_before-view-requires : goal.item_before-view-requires
item_before-view-requires g t c = back_list _ _ _ _ c.loop-item.invariant.back

pub put_changed-requires-in-loop-item : goal.put_changed-requires-in-loop-item
put_changed-requires-in-loop-item g t c =
    let all = c.in_ok-item-items-in-List.item-items.items in
    let road = YieldsList-from_vec {s = c.into_iter-item-iterator.result} all (search rules) (search rules) in
    let w = next_cut all road c.loop-item.yielded c.loop-item.item-iterator c.loop-item.yielded_by c.next.result c.next.new.self c.next.ensures.steps _
    c.in-Some.is in (
      fewer c.args.levels t c.decreases c.if-levels-eq0.false,
      (
        c.requires.index,
        (
          same_put _ _ _ _ _ (ap lens_of c.deref.ensures)
              (item_put _ _ _ _ (same_put _ _ _ _ _ (row_items c.in-List.is refl) c.requires.put) all c.in_ok-item-items-in-List.ensures _ _ _ w.1 _ _ c.loop-item.invariant.put _ c.item_before-first.ensures.first),
          same_back _ _ _ _ _ (ap lens_of c.deref.ensures)
              (item_back _ _ _ _ _ _ c.loop-item.invariant.back c.item_before-view.ensures.first c.item_before-first.ensures.first),
        ),
      ),
    )

pub loop-item-preserved : goal.loop-item-preserved
loop-item-preserved g t c =
    let all = c.in_ok-item-items-in-List.item-items.items in
    let road = YieldsList-from_vec {s = c.into_iter-item-iterator.result} all (search rules) (search rules) in
    let w = next_cut all road c.loop-item.yielded c.loop-item.item-iterator c.loop-item.yielded_by c.next.result c.next.new.self c.next.ensures.steps _
    c.in-Some.is in
    record {
      put = one_put_more _ _ _ _ (same_put _ _ _ _ _ (row_items c.in-List.is refl) c.requires.put) all c.in_ok-item-items-in-List.ensures _ _ _ w.1 _ _ c.loop-item.invariant.put _ _ _ _
          c.item_before-first.ensures.first c.item_before-first.ensures.others
          (same_puts _ _ _ _ _ _ (ap lens_of c.deref.ensures) c.in_ok-put_changed-in-List.ensures) c.in_ok-push-in-List.ensures.items;
      back = others_back _ _ _ _ _ _ c.loop-item.invariant.back c.item_before-view.ensures.others c.item_before-first.ensures.others;
    }

pub returns-in_ok-list_build-in-List : goal.returns-in_ok-list_build-in-List
returns-in_ok-list_build-in-List g t c =
    let all = c.in_ok-item-items-in-List.item-items.items in
    let road = YieldsList-from_vec {s = c.into_iter-item-iterator.result} all (search rules) (search rules) in
    same_puts _ _ _ _ _ _ (row_items c.in-List.is refl)
    (items_puts _ _ _ _ (same_put _ _ _ _ _ (row_items c.in-List.is refl) c.requires.put) _ _ _ _ _ c.in_ok-item-items-in-List.ensures
    (all_taken all road c.loop-item.yielded c.loop-item.item-iterator c.loop-item.yielded_by c.next.result c.next.new.self c.next.ensures.steps c.in-None.is)
    c.loop-item.invariant.put c.in_ok-list_build-in-List.ensures)

-- ---- children

pub loop-name-init : goal.loop-name-init
loop-name-init g t c = record {
  put = none_under _ _ _ _ c.in_ok-edges-in-Map.ensures.items c.edges_before-rest.ensures.sorted c.edges_before-rest.ensures.under;
  views = none_left _ _ c.edges_before-views.ensures.sorted c.edges_before-views.ensures.under;
}

pub put_changed-requires-in-Some-lens : goal.put_changed-requires-in-Some-lens
put_changed-requires-in-Some-lens g t c =
    let all = c.in_ok-items-in-Map.items.items in
    let road = YieldsList-from_vec {s = c.into_iter-name-iterator.result} all (search rules) (search rules) in
    let w = next_cut all road c.loop-name.yielded c.loop-name.name-iterator c.loop-name.yielded_by c.next-in-loop-name.result c.next-in-loop-name.new.self
    c.next-in-loop-name.ensures.steps _ c.in-Some-2.is in
    let at = next_at all road c.loop-name.yielded c.loop-name.name-iterator c.loop-name.yielded_by c.next-in-loop-name.result c.next-in-loop-name.new.self
    c.next-in-loop-name.ensures.steps _ c.in-Some-2.is in
    let here = next_before _ _ _ _ _ _ c.in-Some-2.child c.in_ok-items-in-Map.ensures w.1 in
    let first = c.take_under-first.ensures.taken ∙ c.loop-name.invariant.put.left.later c.in-Some-2.name here in
    let view = c.take_under-view.ensures.taken ∙ c.loop-name.invariant.views.later c.in-Some-2.name here in (
      fewer c.args.levels t c.decreases c.if-levels-eq0.false,
      (
        c.requires.index,
        (
          child_put _ _ _ _ _ (on_children _ c.in-Map.is) c.in_ok-items-in-Map.ensures _ c.in-Some-2.name c.in-Some-2.child _ _ at c.in-Some-lens.is first
              c.requires.put,
          child_back _ _ _ _ (on_children _ c.in-Map.is) c.in_ok-items-in-Map.ensures _ c.in-Some-2.name c.in-Some-2.child _ _ _ _ _ at c.in-Some-lens.is view first
              c.requires.back,
        ),
      ),
    )

pub loop-name-preserved : goal.loop-name-preserved
loop-name-preserved g t c =
    let all = c.in_ok-items-in-Map.items.items in
    let road = YieldsList-from_vec {s = c.into_iter-name-iterator.result} all (search rules) (search rules) in
    let w = next_cut all road c.loop-name.yielded c.loop-name.name-iterator c.loop-name.yielded_by c.next-in-loop-name.result c.next-in-loop-name.new.self
    c.next-in-loop-name.ensures.steps _ c.in-Some-2.is in
    let here = next_before _ _ _ _ _ _ c.in-Some-2.child c.in_ok-items-in-Map.ensures w.1 in
    let left = c.loop-name.invariant.put.left.later c.in-Some-2.name here in
    elim c.match-child.branch [
      | in-Some-lens+in_ok-tree-in-Some-lens w ↦ record {
        put = more_put _ _ _ _ _ _ _ _ c.in-Some-2.name c.in-Some-2.child c.match-child.tree c.loop-name.invariant.put
            (put_by_lens _ _ _ _ _ _ _ _ w.in-Some-lens.is w.tree-is (w.take_under-first.ensures.taken ∙ left) w.in_ok-tree-in-Some-lens.ensures)
            c.in_ok-push-in-Map.ensures.items
            (ap deque_items w.rest-is) w.take_under-first.ensures.sorted w.take_under-first.ensures.later;
        views = more_left _ _ _ _ _ c.in-Some-2.name c.in-Some-2.child c.loop-name.invariant.views (ap deque_items w.views-is)
            w.take_under-view.ensures.sorted w.take_under-view.ensures.later;
      }
      | in-None-lens w ↦ record {
        put = more_put _ _ _ _ _ _ _ _ c.in-Some-2.name c.in-Some-2.child c.match-child.tree c.loop-name.invariant.put
            (put_by_none _ _ _ _ _ w.in-None-lens.is w.tree-is) c.in_ok-push-in-Map.ensures.items
            (ap deque_items w.rest-is) c.loop-name.invariant.put.left.sorted (λ q less. refl);
        views = more_left _ _ _ _ _ c.in-Some-2.name c.in-Some-2.child c.loop-name.invariant.views (ap deque_items w.views-is)
            c.loop-name.invariant.views.sorted (λ q less. refl);
      }
    ]

pub of_edges-requires : goal.of_edges-requires
of_edges-requires g t c =
    let all = c.in_ok-items-in-Map.items.items in
    let road = YieldsList-from_vec {s = c.into_iter-name-iterator.result} all (search rules) (search rules) in
    put_edges _ _ _ _ _ (on_children _ c.in-Map.is) c.in_ok-items-in-Map.ensures _ _ _
    (all_taken all road c.loop-name.yielded c.loop-name.name-iterator c.loop-name.yielded_by c.next-in-loop-name.result c.next-in-loop-name.new.self
    c.next-in-loop-name.ensures.steps c.in-None-2.is)
    c.loop-name.invariant.put

pub returns-in_ok-of_edges-in-Map : goal.returns-in_ok-of_edges-in-Map
returns-in_ok-of_edges-in-Map g t c =
    let all = c.in_ok-items-in-Map.items.items in
    let road = YieldsList-from_vec {s = c.into_iter-name-iterator.result} all (search rules) (search rules) in
    children_put _ _ _ _ _ (on_children _ c.in-Map.is) c.in_ok-items-in-Map.ensures _ _ _
    (all_taken all road c.loop-name.yielded c.loop-name.name-iterator c.loop-name.yielded_by c.next-in-loop-name.result c.next-in-loop-name.new.self
    c.next-in-loop-name.ensures.steps c.in-None-2.is)
    c.loop-name.invariant.put _ c.in_ok-of_edges-in-Map.ensures
