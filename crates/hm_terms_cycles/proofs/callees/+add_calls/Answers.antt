use Rattle.std.proofs.Common.{List, sym, ap, ◌∙◌, subst}
use Rattle.hm_tree.specs.Names.{Name}
use Rattle.hm_terms.specs.declared.term.Term.{Term}
use Rattle.hm_terms.specs.Lenses.{fork, each, items, among, on_concrete, on_view}
use Rattle.hm_terms.specs.Programs.{lens_of, lenses_of}
use Rattle.hm_terms.specs.Calls.{Calls, calls_inside, calls_outside, calls_each, calls_items, calls_where_it_has, calls_where_it_lacks, calls_where_it_showed, calls_where_it_did_not}
use Rattle.hm_terms.proofs.Rows.{each_items}
use Rattle.hm_terms_cycles.proofs.LensCalls.{adds_none, adds_below, adds_sequence, adds_branches, split_each, split_items, split_fork, split_concrete, split_view}
use Rattle.hm_terms_cycles.proofs.Rows.{walk_begins, walk_new, walk_old, adds_among}
use Rattle.hm_terms_cycles.proofs.callees.+add_calls.Goals.{then-branch+in_ok-add_calls-in-Each, else-branch}
use Rattle.hm_terms_cycles.proofs.callees.+add_calls.Goals as goal

pub loop-i-init : goal.loop-i-init
loop-i-init t c = walk_begins c.args.places.now c.args.sequence c.deref-named-items.result.now c.args.set.now _ c.requires.set c.new-names.ensures.items

pub add_name-requires : goal.add_name-requires
add_name-requires t c = c.loop-i.invariant.named.sorted

pub loop-i-preserved : goal.loop-i-preserved
loop-i-preserved t c = elim c.if-branch.branch [
  | then-branch+in_ok-add_calls-in-Each w ↦
      walk_new c.args.places.now c.args.sequence c.deref-named-items.result.now c.loop-i.i _ c.loop-i-test.true c.named-item.is
      c.args.set.now c.loop-i.set _ _ c.loop-i.invariant c.in_ok-add_name-in-Each.ensures.put _ _ w.set-is
      (sym w.if-branch.true ∙ c.in_ok-add_name-in-Each.ensures.added) w.in_ok-add_calls-in-Each.ensures.set
      w.in_ok-add_calls-in-Each.ensures.adds w.add_calls-then-branch.ensures.count
  | else-branch w ↦
      walk_old c.args.places.now c.args.sequence c.deref-named-items.result.now c.loop-i.i _ c.loop-i-test.true c.named-item.is
      c.args.set.now c.loop-i.set _ _ c.loop-i.invariant c.in_ok-add_name-in-Each.ensures.put _ w.set-is
      (sym w.if-branch.false ∙ c.in_ok-add_name-in-Each.ensures.added)
]

pub returns-in-Id-clause-adds : goal.returns-in-Id-clause-adds
returns-in-Id-clause-adds t c =
    adds_none c.args.places.now c.args.sequence c.args.children (lens_of c.args.term.now) _
    (λ s d n h. elim (subst (λ l. Calls l s d n) (ap lens_of c.in-Id.is) h) [ ])

pub returns-in-Const-clause-adds : goal.returns-in-Const-clause-adds
returns-in-Const-clause-adds t c =
    adds_none c.args.places.now c.args.sequence c.args.children (lens_of c.args.term.now) _
    (λ s d n h. elim (subst (λ l. Calls l s d n) (ap lens_of c.in-Const.is) h) [ ])

pub returns-in-Hoist-clause-adds : goal.returns-in-Hoist-clause-adds
returns-in-Hoist-clause-adds t c =
    adds_none c.args.places.now c.args.sequence c.args.children (lens_of c.args.term.now) _
    (λ s d n h. elim (subst (λ l. Calls l s d n) (ap lens_of c.in-Hoist.is) h) [ ])

pub returns-in-Plunge-clause-adds : goal.returns-in-Plunge-clause-adds
returns-in-Plunge-clause-adds t c =
    adds_none c.args.places.now c.args.sequence c.args.children (lens_of c.args.term.now) _
    (λ s d n h. elim (subst (λ l. Calls l s d n) (ap lens_of c.in-Plunge.is) h) [ ])

pub returns-in-Copy-clause-adds : goal.returns-in-Copy-clause-adds
returns-in-Copy-clause-adds t c =
    adds_none c.args.places.now c.args.sequence c.args.children (lens_of c.args.term.now) _
    (λ s d n h. elim (subst (λ l. Calls l s d n) (ap lens_of c.in-Copy.is) h) [ ])

pub returns-in-Merge-clause-adds : goal.returns-in-Merge-clause-adds
returns-in-Merge-clause-adds t c =
    adds_none c.args.places.now c.args.sequence c.args.children (lens_of c.args.term.now) _
    (λ s d n h. elim (subst (λ l. Calls l s d n) (ap lens_of c.in-Merge.is) h) [ ])

pub returns-in-Text-clause-adds : goal.returns-in-Text-clause-adds
returns-in-Text-clause-adds t c =
    adds_none c.args.places.now c.args.sequence c.args.children (lens_of c.args.term.now) _
    (λ s d n h. elim (subst (λ l. Calls l s d n) (ap lens_of c.in-Text.is) h) [ ])

pub returns-in_ok-add_calls-in-Map-clause-adds : goal.returns-in_ok-add_calls-in-Map-clause-adds
returns-in_ok-add_calls-in-Map-clause-adds t c =
    adds_below c.args.places.now c.args.sequence c.args.children each split_each (λ l s d n h. calls_each h) _ _
    (ap lens_of c.in-Map.is) (ap lens_of c.deref.ensures) c.in_ok-add_calls-in-Map.ensures.adds

pub returns-in_ok-add_calls-in-List-clause-adds : goal.returns-in_ok-add_calls-in-List-clause-adds
returns-in_ok-add_calls-in-List-clause-adds t c =
    adds_below c.args.places.now c.args.sequence c.args.children items split_items (λ l s d n h. calls_items h) _ _
    (ap lens_of c.in-List.is) (ap lens_of c.deref-in-List.ensures) c.in_ok-add_calls-in-List.ensures.adds

pub returns-after-loop-i-clause-adds : goal.returns-after-loop-i-clause-adds
returns-after-loop-i-clause-adds t c =
    adds_among c.args.places.now c.args.sequence c.deref-named-items.result.now c.args.children c.loop-i.i _ _ c.loop-i-test.false
    (ap lens_of c.in-Each.is ∙ each_items c.in-Each.terms ∙ ap (λ (z : List (Name × Term)). among (lenses_of z)) (sym c.deref-named-items.ensures.value))
    c.loop-i.invariant.adds

pub returns-in_ok-add_calls-in-Seq-2-clause-adds : goal.returns-in_ok-add_calls-in-Seq-2-clause-adds
returns-in_ok-add_calls-in-Seq-2-clause-adds t c =
    adds_sequence c.args.places.now c.args.sequence c.args.children _ _ _
    (ap lens_of c.in-Seq.is) (ap lens_of c.deref-in-Seq.ensures) (ap lens_of c.deref-in-Seq-2.ensures)
    c.in_ok-add_calls-in-Seq.ensures.adds c.in_ok-add_calls-in-Seq-2.ensures.adds

pub returns-in_ok-add_calls-in-Fork-2-clause-adds : goal.returns-in_ok-add_calls-in-Fork-2-clause-adds
returns-in_ok-add_calls-in-Fork-2-clause-adds t c =
    adds_branches c.args.places.now c.args.sequence c.args.children (fork c.in-Fork.concrete c.in-Fork.shown)
    (split_fork c.in-Fork.concrete c.in-Fork.shown) (λ l k s d n h. calls_inside h) (λ l k s d n h. calls_outside h) _ _ _
    (ap lens_of c.in-Fork.is) (ap lens_of c.deref-in-Fork.ensures) (ap lens_of c.deref-in-Fork-2.ensures)
    c.in_ok-add_calls-in-Fork.ensures.adds c.in_ok-add_calls-in-Fork-2.ensures.adds

pub returns-in_ok-add_calls-in-ByConcrete-2-clause-adds : goal.returns-in_ok-add_calls-in-ByConcrete-2-clause-adds
returns-in_ok-add_calls-in-ByConcrete-2-clause-adds t c =
    adds_branches c.args.places.now c.args.sequence c.args.children (on_concrete c.in-ByConcrete.name)
    (split_concrete c.in-ByConcrete.name) (λ l k s d n h. calls_where_it_has h) (λ l k s d n h. calls_where_it_lacks h) _ _ _
    (ap lens_of c.in-ByConcrete.is) (ap lens_of c.deref-in-ByConcrete.ensures) (ap lens_of c.deref-in-ByConcrete-2.ensures)
    c.in_ok-add_calls-in-ByConcrete.ensures.adds c.in_ok-add_calls-in-ByConcrete-2.ensures.adds

pub returns-in_ok-add_calls-in-ByView-2-clause-adds : goal.returns-in_ok-add_calls-in-ByView-2-clause-adds
returns-in_ok-add_calls-in-ByView-2-clause-adds t c =
    adds_branches c.args.places.now c.args.sequence c.args.children (on_view c.in-ByView.name c.in-ByView.shown)
    (split_view c.in-ByView.name c.in-ByView.shown) (λ l k s d n h. calls_where_it_showed h) (λ l k s d n h. calls_where_it_did_not h) _ _ _
    (ap lens_of c.in-ByView.is) (ap lens_of c.deref-in-ByView.ensures) (ap lens_of c.deref-in-ByView-2.ensures)
    c.in_ok-add_calls-in-ByView.ensures.adds c.in_ok-add_calls-in-ByView-2.ensures.adds
