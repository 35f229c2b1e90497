use Rattle.std.proofs.Common.{rules, refl, sym, ap, deque_items, ◌∙◌, arith}
use Rattle.std.proofs.lemmas.Iterator.Adapters.{YieldsList-from_vec}
use Rattle.std.proofs.lemmas.Result.{IfOk-weaker}
use Rattle.hm_terms.specs.Programs.{lens_of}
use Rattle.hm_eval_terms.proofs.Paired.{next_at, next_cut, all_taken}
use Rattle.hm_eval_terms.proofs.OnChildren.{on_children}
use Rattle.hm_terms.proofs.Terms.{row_fork, row_concrete, row_view, row_items}
use Rattle.hm_eval_terms.proofs.ShowSteps.{fewer}
use Rattle.hm_eval_terms.proofs.PutSteps.{same_put, row_puts, lent_put, lent_puts, same_puts, hoist_puts, had_both, merge_puts, inside_put, outside_put, apart_put, fork_puts, concrete_put, concrete_puts, view_put, view_puts, called_put, call_puts}
use Rattle.hm_eval_terms.proofs.PutItems.{items_list, none_put, old_list, item_put, one_put_more, items_puts}
use Rattle.hm_eval_terms.proofs.PutChildren.{none_put as none_under, more_put, next_before, child_put, put_edges, children_put, put_by_lens, put_by_none}
use Rattle.hm_eval_terms.proofs.Renamed.{back_there, back_free, renamed_puts}
use Rattle.hm_eval_terms.proofs.StageSteps.{here_put, one_back, back_done, seq_puts}
use Rattle.hm_eval_terms.proofs.putting.+put_by.Goals.{in-Some-lens+in_ok-tree-in-Some-lens, in-None-lens}
use Rattle.hm_eval_terms.proofs.putting.+put_by.Goals as goal

-- ---- another name in place of one

pub renamed-requires-clause-there : goal.renamed-requires-clause-there
renamed-requires-clause-there g t c = back_there _ _ _ _ _ _ c.in-Some.ensures c.requires.put

pub renamed-requires-clause-free : goal.renamed-requires-clause-free
renamed-requires-clause-free g t c = back_free _ _ _ _ _ _ c.in-Some.ensures c.requires.put

pub returns-in-Some : goal.returns-in-Some
returns-in-Some g t c = IfOk-weaker _ _ _ (renamed_puts _ _ _ _ _ _ c.in-Some.ensures c.requires.put) c.renamed.ensures

-- ---- lenses without lenses inside, and calls

pub returns-in_ok-under-in-Hoist : goal.returns-in_ok-under-in-Hoist
returns-in_ok-under-in-Hoist g t c =
    hoist_puts _ _ _ _ _ _ _ (ap lens_of c.in-Hoist.is) c.in_ok-copy-in-Hoist.ensures.value c.in_ok-under-in-Hoist.ensures

pub returns-in_ok-merge_into-in-Merge : goal.returns-in_ok-merge_into-in-Merge
returns-in_ok-merge_into-in-Merge g t c = merge_puts _ _ _ _ _ _ (ap lens_of c.in-Merge.is) c.requires.put _ c.in_ok-merge_into-in-Merge.ensures

pub merge_into-requires-clause-before : goal.merge_into-requires-clause-before
merge_into-requires-clause-before g t c = had_both _ _ _ _ _ _ (ap lens_of c.in-Merge.is) c.requires.put

pub put_text-requires : goal.put_text-requires
put_text-requires g t c = lent_put _ _ _ _ _ _ (sym (ap lens_of c.in-Text.is)) c.as_ref.ensures.value c.requires.put

pub returns-in-Text : goal.returns-in-Text
returns-in-Text g t c = lent_puts _ _ _ _ _ _ _ (sym (ap lens_of c.in-Text.is)) c.as_ref.ensures.value c.put_text.ensures

pub put_by-requires : goal.put_by-requires
put_by-requires g t c = (fewer c.args.levels t c.decreases c.if-levels-eq0.false, (c.requires.index, called_put _ _ _ _ _ _ (ap lens_of c.in-Call.is) c.body.ensures c.requires.put))

pub returns-in-Call : goal.returns-in-Call
returns-in-Call g t c = IfOk-weaker _ _ _ (λ v. call_puts _ _ _ _ _ _ v (ap lens_of c.in-Call.is) c.body.ensures) c.put_by.ensures

-- ---- sequence

pub put_by-requires-in-Some-pop : goal.put_by-requires-in-Some-pop
put_by-requires-in-Some-pop g t c = (
  fewer c.args.levels t c.decreases c.if-levels-eq0.false,
  (c.requires.index, here_put _ _ _ _ _ _ _ (c.loop-stage.invariant c.requires.put.tree c.requires.put.is) c.in-Some-pop.ensures.items),
)

pub loop-stage-init : goal.loop-stage-init
loop-stage-init g t c = λ w p. c.in_ok-stages-in-Seq.ensures _ w p

pub loop-stage-preserved : goal.loop-stage-preserved
loop-stage-preserved g t c = λ w p. one_back _ _ _ _ _ _ _ _ (c.loop-stage.invariant w p) c.in-Some-pop.ensures.items c.in_ok-made-in-Seq.ensures

pub returns-in_default-pop : goal.returns-in_default-pop
returns-in_default-pop g t c =
    seq_puts _ _ _ _ _ _ c.requires.put.is
    (back_done _ _ _ _ (c.loop-stage.invariant c.requires.put.tree c.requires.put.is) (omega (arith, c.loop-stage.stages.ok, c.in_default-pop.ensures.cases.0)))

-- ---- fork

pub put_by-requires-in-Fork : goal.put_by-requires-in-Fork
put_by-requires-in-Fork g t c = (
  fewer c.args.levels t c.decreases c.if-levels-eq0.false,
  (
    c.requires.index,
    inside_put _ _ _ _ _ _ _ _ _ c.in_ok-within-in-Fork.ensures c.in_ok-old_within-in-Fork.ensures (same_put _ _ _ _ _ (row_fork c.in-Fork.is c.deref.ensures refl) c.requires.put),
  ),
)

pub put_by-requires-in-Fork-2 : goal.put_by-requires-in-Fork-2
put_by-requires-in-Fork-2 g t c = (
  fewer c.args.levels t c.decreases c.if-levels-eq0.false,
  (
    c.requires.index,
    outside_put _ _ _ _ _ _ _ _ _ c.in_ok-within-in-Fork.ensures c.in_ok-old_within-in-Fork.ensures (same_put _ _ _ _ _ (row_fork c.in-Fork.is c.deref.ensures c.deref-in-Fork.ensures) c.requires.put),
  ),
)

pub join-requires : goal.join-requires
join-requires g t c =
    apart_put _ _ _ _ _ _ _ _ _ c.in_ok-within-in-Fork.ensures c.in_ok-old_within-in-Fork.ensures _ _
    (same_put _ _ _ _ _ (row_fork c.in-Fork.is c.deref.ensures c.deref-in-Fork.ensures) c.requires.put) c.in_ok-one-in-Fork.ensures c.in_ok-two-in-Fork.ensures

pub returns-in_ok-join-in-Fork : goal.returns-in_ok-join-in-Fork
returns-in_ok-join-in-Fork g t c =
    same_puts _ _ _ _ _ _ (row_fork c.in-Fork.is c.deref.ensures c.deref-in-Fork.ensures)
    (fork_puts _ _ _ _ _ _ _ _ _ c.in_ok-within-in-Fork.ensures c.in_ok-old_within-in-Fork.ensures _ _ _ c.in_ok-one-in-Fork.ensures c.in_ok-two-in-Fork.ensures c.in_ok-join-in-Fork.ensures)

-- ---- one of two lenses

pub put_by-requires-in-ByConcrete : goal.put_by-requires-in-ByConcrete
put_by-requires-in-ByConcrete g t c = (
  fewer c.args.levels t c.decreases c.if-levels-eq0.false,
  (
    c.requires.index,
    concrete_put _ _ _ _ _ _ _ _ c.as_ref-in-ByConcrete.ensures.value c.chosen-lens.ensures
        (same_put _ _ _ _ _ (row_concrete c.in-ByConcrete.is c.deref-in-ByConcrete.ensures c.deref-in-ByConcrete-2.ensures) c.requires.put),
  ),
)

pub returns-in-ByConcrete : goal.returns-in-ByConcrete
returns-in-ByConcrete g t c =
    row_puts _ _ _ _ _ _ (row_concrete c.in-ByConcrete.is c.deref-in-ByConcrete.ensures c.deref-in-ByConcrete-2.ensures)
    (IfOk-weaker _ _ _ (λ v. concrete_puts _ _ _ _ _ _ _ _ c.as_ref-in-ByConcrete.ensures.value c.chosen-lens.ensures v) c.put_by-in-ByConcrete.ensures)

pub put_by-requires-in-ByView : goal.put_by-requires-in-ByView
put_by-requires-in-ByView g t c = (
  fewer c.args.levels t c.decreases c.if-levels-eq0.false,
  (
    c.requires.index,
    view_put _ _ _ _ _ _ _ _ _ _ c.chosen-lens-in-ByView.ensures c.has.ensures c.before_where-old.ensures
        (same_put _ _ _ _ _ (row_view c.in-ByView.is c.deref-in-ByView.ensures c.deref-in-ByView-2.ensures) c.requires.put),
  ),
)

pub returns-in-ByView : goal.returns-in-ByView
returns-in-ByView g t c =
    row_puts _ _ _ _ _ _ (row_view c.in-ByView.is c.deref-in-ByView.ensures c.deref-in-ByView-2.ensures)
    (IfOk-weaker _ _ _ (λ v. view_puts _ _ _ _ _ _ _ _ _ _ c.chosen-lens-in-ByView.ensures c.has.ensures c.before_where-old.ensures v) c.put_by-in-ByView.ensures)

-- ---- items

pub into_items-requires : goal.into_items-requires
into_items-requires g t c = items_list _ _ _ _ (same_put _ _ _ _ _ (row_items c.in-List.is refl) c.requires.put)

pub loop-item-init : goal.loop-item-init
loop-item-init g t c = none_put _ _ _ _ (same_put _ _ _ _ _ (row_items c.in-List.is refl) c.requires.put) _ c.new-made.ensures.items

pub item_before-first-requires : goal.item_before-first-requires
item_before-first-requires g t c =
    let all = c.in_ok-item-items-in-List.item-items.items in
    let road = YieldsList-from_vec {s = c.into_iter-item-iterator.result} all (search rules) (search rules) in
    let w = next_cut all road c.loop-item.yielded c.loop-item.item-iterator c.loop-item.yielded_by c.next.result c.next.new.self c.next.ensures.steps _
    c.in-Some-item.is in
    old_list _ _ _ _ (same_put _ _ _ _ _ (row_items c.in-List.is refl) c.requires.put) all c.in_ok-item-items-in-List.ensures _ _ _ w.1 _ _ c.loop-item.invariant

pub put_by-requires-in-loop-item : goal.put_by-requires-in-loop-item
put_by-requires-in-loop-item g t c =
    let all = c.in_ok-item-items-in-List.item-items.items in
    let road = YieldsList-from_vec {s = c.into_iter-item-iterator.result} all (search rules) (search rules) in
    let w = next_cut all road c.loop-item.yielded c.loop-item.item-iterator c.loop-item.yielded_by c.next.result c.next.new.self c.next.ensures.steps _
    c.in-Some-item.is in (
      fewer c.args.levels t c.decreases c.if-levels-eq0.false,
      (
        c.requires.index,
        same_put _ _ _ _ _ (ap lens_of c.deref-in-loop-item.ensures)
            (item_put _ _ _ _ (same_put _ _ _ _ _ (row_items c.in-List.is refl) c.requires.put) all c.in_ok-item-items-in-List.ensures _ _ _ w.1 _ _ c.loop-item.invariant _ c.item_before-first.ensures.first),
      ),
    )

pub loop-item-preserved : goal.loop-item-preserved
loop-item-preserved g t c =
    let all = c.in_ok-item-items-in-List.item-items.items in
    let road = YieldsList-from_vec {s = c.into_iter-item-iterator.result} all (search rules) (search rules) in
    let w = next_cut all road c.loop-item.yielded c.loop-item.item-iterator c.loop-item.yielded_by c.next.result c.next.new.self c.next.ensures.steps _
    c.in-Some-item.is in
    one_put_more _ _ _ _ (same_put _ _ _ _ _ (row_items c.in-List.is refl) c.requires.put) all c.in_ok-item-items-in-List.ensures _ _ _ w.1 _ _ c.loop-item.invariant _ _ _ _
    c.item_before-first.ensures.first c.item_before-first.ensures.others
    (same_puts _ _ _ _ _ _ (ap lens_of c.deref-in-loop-item.ensures) c.in_ok-put_by-in-List.ensures) c.in_ok-push-in-List.ensures.items

pub returns-in_ok-list_build-in-List : goal.returns-in_ok-list_build-in-List
returns-in_ok-list_build-in-List g t c =
    let all = c.in_ok-item-items-in-List.item-items.items in
    let road = YieldsList-from_vec {s = c.into_iter-item-iterator.result} all (search rules) (search rules) in
    same_puts _ _ _ _ _ _ (row_items c.in-List.is refl)
    (items_puts _ _ _ _ (same_put _ _ _ _ _ (row_items c.in-List.is refl) c.requires.put) _ _ _ _ _ c.in_ok-item-items-in-List.ensures
    (all_taken all road c.loop-item.yielded c.loop-item.item-iterator c.loop-item.yielded_by c.next.result c.next.new.self c.next.ensures.steps c.in-None.is)
    c.loop-item.invariant c.in_ok-list_build-in-List.ensures)

-- ---- children

pub loop-name-init : goal.loop-name-init
loop-name-init g t c = none_under _ _ _ _ c.in_ok-edges-in-Map.ensures.items c.edges_before-rest.ensures.sorted c.edges_before-rest.ensures.under

pub put_by-requires-in-Some-lens : goal.put_by-requires-in-Some-lens
put_by-requires-in-Some-lens g t c =
    let all = c.in_ok-items-in-Map.items.items in
    let road = YieldsList-from_vec {s = c.into_iter-name-iterator.result} all (search rules) (search rules) in
    let w = next_cut all road c.loop-name.yielded c.loop-name.name-iterator c.loop-name.yielded_by c.next-in-loop-name.result c.next-in-loop-name.new.self
    c.next-in-loop-name.ensures.steps _ c.in-Some-2.is in (
      fewer c.args.levels t c.decreases c.if-levels-eq0.false,
      (
        c.requires.index,
        child_put _ _ _ _ _ (on_children _ c.in-Map.is) c.in_ok-items-in-Map.ensures _ c.in-Some-2.name c.in-Some-2.child _ _
            (next_at all road c.loop-name.yielded c.loop-name.name-iterator c.loop-name.yielded_by c.next-in-loop-name.result c.next-in-loop-name.new.self
            c.next-in-loop-name.ensures.steps _ c.in-Some-2.is)
            c.in-Some-lens.is
            (c.take_under-old.ensures.taken ∙ c.loop-name.invariant.left.later c.in-Some-2.name (next_before _ _ _ _ _ _ c.in-Some-2.child
            c.in_ok-items-in-Map.ensures w.1))
            c.requires.put,
      ),
    )

pub loop-name-preserved : goal.loop-name-preserved
loop-name-preserved g t c =
    let all = c.in_ok-items-in-Map.items.items in
    let road = YieldsList-from_vec {s = c.into_iter-name-iterator.result} all (search rules) (search rules) in
    let w = next_cut all road c.loop-name.yielded c.loop-name.name-iterator c.loop-name.yielded_by c.next-in-loop-name.result c.next-in-loop-name.new.self
    c.next-in-loop-name.ensures.steps _ c.in-Some-2.is in
    let left = c.loop-name.invariant.left.later c.in-Some-2.name (next_before _ _ _ _ _ _ c.in-Some-2.child c.in_ok-items-in-Map.ensures w.1) in
    elim c.match-child.branch [
      | in-Some-lens+in_ok-tree-in-Some-lens w ↦
          more_put _ _ _ _ _ _ _ _ c.in-Some-2.name c.in-Some-2.child c.match-child.tree c.loop-name.invariant
          (put_by_lens _ _ _ _ _ _ _ _ w.in-Some-lens.is w.tree-is (w.take_under-old.ensures.taken ∙ left) w.in_ok-tree-in-Some-lens.ensures)
          c.in_ok-push-in-Map.ensures.items
          (ap deque_items w.rest-is) w.take_under-old.ensures.sorted w.take_under-old.ensures.later
      | in-None-lens w ↦
          more_put _ _ _ _ _ _ _ _ c.in-Some-2.name c.in-Some-2.child c.match-child.tree c.loop-name.invariant
          (put_by_none _ _ _ _ _ w.in-None-lens.is w.tree-is) c.in_ok-push-in-Map.ensures.items
          (ap deque_items w.rest-is) c.loop-name.invariant.left.sorted (λ q less. refl)
    ]

pub of_edges-requires : goal.of_edges-requires
of_edges-requires g t c =
    let all = c.in_ok-items-in-Map.items.items in
    let road = YieldsList-from_vec {s = c.into_iter-name-iterator.result} all (search rules) (search rules) in
    put_edges _ _ _ _ _ (on_children _ c.in-Map.is) c.in_ok-items-in-Map.ensures _ _ _
    (all_taken all road c.loop-name.yielded c.loop-name.name-iterator c.loop-name.yielded_by c.next-in-loop-name.result c.next-in-loop-name.new.self
    c.next-in-loop-name.ensures.steps c.in-None-2.is)
    c.loop-name.invariant

pub returns-in_ok-of_edges-in-Map : goal.returns-in_ok-of_edges-in-Map
returns-in_ok-of_edges-in-Map g t c =
    let all = c.in_ok-items-in-Map.items.items in
    let road = YieldsList-from_vec {s = c.into_iter-name-iterator.result} all (search rules) (search rules) in
    children_put _ _ _ _ _ (on_children _ c.in-Map.is) c.in_ok-items-in-Map.ensures _ _ _
    (all_taken all road c.loop-name.yielded c.loop-name.name-iterator c.loop-name.yielded_by c.next-in-loop-name.result c.next-in-loop-name.new.self
    c.next-in-loop-name.ensures.steps c.in-None-2.is)
    c.loop-name.invariant _ c.in_ok-of_edges-in-Map.ensures
