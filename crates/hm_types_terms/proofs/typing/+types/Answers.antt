use Rattle.std.proofs.Common.{rules, ◌≡◌, ◌<◌, ◌+◌, [], length, take, slice_get, slice_set, Some, None, refl, sym, ap, subst, ◌∙◌, arith}
use mathlib.Core.Bool.{false≢true}
use Rattle.std.proofs.lemmas.List.{take_all, length-map, length-set}
use Rattle.std.proofs.lemmas.Option.{same_Some, slice_get_read}
use Rattle.std.proofs.lemmas.Result.{IfOk-weaker, IfErr-weaker, err_from_is_err_and}
use Rattle.std.specs.Option.{option_map}
use Rattle.hm_tree.specs.declared.class.Class.{Class}
use Rattle.hm_tree.specs.Names.{Name}
use Rattle.hm_schema.specs.declared.node.NodeId.{NodeId}
use Rattle.hm_schema.specs.Values.{NodeValue}
use Rattle.hm_terms.specs.Lenses.{sequence, fork, each, among, items, on_concrete, on_view, lens_at}
use Rattle.hm_terms.specs.Programs.{lens_of, lenses_of}
use Rattle.hm_terms.proofs.Rows.{each_items}
use Rattle.hm_types_forms.specs.Forms.{named, others, can_be, form}
use Rattle.hm_types_rules.specs.Sources.{MergeView}
use Rattle.hm_types_rules.specs.Typing.{goes_identity}
use Rattle.hm_types_rules.specs.Faults.{size_of}
use Rattle.hm_types_table.specs.Tables.{replaced}
use Rattle.hm_types_table.proofs.Grown.{extends_self, extends_then, extends_at, formed_at}
use Rattle.hm_types_terms.specs.Numbers.{parts_of}
use Rattle.hm_types_terms.specs.Courses.{scope_of, IsReady, IsView, IsAt, IsGrown}
use Rattle.hm_types_terms.specs.Pairs.{IsPairAt}
use Rattle.hm_types_terms.specs.Below.{IsListedAt, IsOtherAt, where_it_can, AreLed, AreOthersLed}
use Rattle.hm_types_terms.proofs.Entries.{there, at_found, pushed_size}
use Rattle.hm_types_terms.proofs.Falling.{first_falls, second_falls, pair_falls, pair_second_falls, inner_falls, step_falls, below_falls, among_falls, row_falls}
use Rattle.hm_types_terms.proofs.Growing.{grown_by, grown_then, grown_last, declared_grown, ready_later}
use Rattle.hm_types_terms.proofs.Telling.{told_so, told_at}
use Rattle.hm_types_terms.proofs.Pairs.{second_ready, pair_views, second_at, sequence_ready, sequence_numbered, then_ready, sequence_view, sequence_second_at, sequence_first_at}
use Rattle.hm_types_terms.proofs.Branched.{pair_ready, first_twins, fork_refused, fork_sound, fork_pair_at, fork_view, fork_apart, branch_sound, concrete_refused, concrete_pair_at, concrete_view, concrete_apart, view_refused, view_pair_at, view_view, view_apart}
use Rattle.hm_types_terms.proofs.Led.{led_grown}
use Rattle.hm_types_terms.proofs.Items.{items_refused, items_ready, items_at, items_view}
use Rattle.hm_types_terms.proofs.Each.{can_replace, each_refused, child_ready, listed_at, other_at, each_view, each_pushed, each_others}
use Rattle.hm_types_terms.proofs.NamedSteps.{named_stand, named_refused, named_start, place_inside, edge_is, row_stand, row_ready, row_at, row_led, row_next, size_next, none_led, named_view, row_listed, place_some, place_is, named_on}
use Rattle.hm_types_terms.proofs.Recalled.{recalled, remembered}
use Rattle.hm_types_terms.proofs.typing.+types.Goals as goal

-- ---- a lens whose view is remembered, or found anew

pub view-returns-in-Some-clause-view : goal.view-returns-in-Some-clause-view
view-returns-in-Some-clause-view t c =
    recalled c.args.course.now c.args.table.now c.args.memo.now (lens_of c.args.term.now) c.args.number c.like-lens.result c.args.at
    (c.like-lens.ensures (lens_of c.args.term.now) c.requires.stand) c.in-Some.view c.requires c.in-Some.ensures

pub view-returns-in_err-remember-clause-grown : goal.view-returns-in_err-remember-clause-grown
view-returns-in_err-remember-clause-grown t c =
    remembered c.args.course.now c.args.table.now c.args.memo.now (lens_of c.args.term.now) c.args.number c.like-lens.result c.args.at
    (c.like-lens.ensures (lens_of c.args.term.now) c.requires.stand) c.requires c.anew.new.table c.anew.new.memo
    c.remember.new.self c.in_ok-view.view c.in_ok-view.ensures.grown c.in_ok-view.ensures.view c.remember.ensures

pub view-returns-clause-grown : goal.view-returns-clause-grown
view-returns-clause-grown t c =
    remembered c.args.course.now c.args.table.now c.args.memo.now (lens_of c.args.term.now) c.args.number c.like-lens.result c.args.at
    (c.like-lens.ensures (lens_of c.args.term.now) c.requires.stand) c.requires c.anew.new.table c.anew.new.memo
    c.remember.new.self c.in_ok-view.view c.in_ok-view.ensures.grown c.in_ok-view.ensures.view c.remember.ensures

pub anew-returns-in-Id-clause-view : goal.anew-returns-in-Id-clause-view
anew-returns-in-Id-clause-view t c =
    subst (λ l. IsView (scope_of c.args.course.now) c.args.table.now c.args.table.now l c.args.at c.args.at) (sym (ap lens_of c.in-Id.is))
    (record { in_range = c.requires.start.in_range; goes = λ types t. goes_identity })

pub anew-returns-in-Const-clause-grown : goal.anew-returns-in-Const-clause-grown
anew-returns-in-Const-clause-grown t c = grown_by _ _ _ _ _ _ c.requires _ c.constant.ensures.formed c.constant.ensures.extends

pub anew-returns-in_err-plunge-in-Plunge-clause-grown : goal.anew-returns-in_err-plunge-in-Plunge-clause-grown
anew-returns-in_err-plunge-in-Plunge-clause-grown t c = grown_by _ _ _ _ _ _ c.requires _ c.plunge.ensures.formed c.plunge.ensures.extends

pub anew-returns-in_ok-plunge-in-Plunge-clause-grown : goal.anew-returns-in_ok-plunge-in-Plunge-clause-grown
anew-returns-in_ok-plunge-in-Plunge-clause-grown t c = grown_by _ _ _ _ _ _ c.requires _ c.plunge.ensures.formed c.plunge.ensures.extends

pub anew-returns-in-Copy-clause-grown : goal.anew-returns-in-Copy-clause-grown
anew-returns-in-Copy-clause-grown t c = grown_by _ _ _ _ _ _ c.requires _ c.copy.ensures.formed c.copy.ensures.extends

pub anew-returns-in-Merge-clause-grown : goal.anew-returns-in-Merge-clause-grown
anew-returns-in-Merge-clause-grown t c = grown_by _ _ _ _ _ _ c.requires _ c.hide.ensures.formed c.hide.ensures.extends

pub anew-returns-in-Text-clause-grown : goal.anew-returns-in-Text-clause-grown
anew-returns-in-Text-clause-grown t c = grown_by _ _ _ _ _ _ c.requires _ c.text.ensures.formed c.text.ensures.extends

pub anew-on_named-requires : goal.anew-on_named-requires
anew-on_named-requires t c =
    let is : lens_of c.args.term.now ≡ among (lenses_of c.deref-in-Each.result.now) =
    ap lens_of c.in-Each.is ∙ each_items c.in-Each.rows ∙ ap (λ rows. among (lenses_of rows)) (sym c.deref-in-Each.ensures.value) in (
      among_falls (lens_of c.args.term.now) (lenses_of c.deref-in-Each.result.now) t is c.decreases,
      subst (λ l. IsReady c.args.course.now c.args.table.now c.args.memo.now (parts_of l) c.args.number c.args.at) is c.requires,
    )

pub anew-returns-in-Each-clause-view : goal.anew-returns-in-Each-clause-view
anew-returns-in-Each-clause-view t c =
    let is : lens_of c.args.term.now ≡ among (lenses_of c.deref-in-Each.result.now) =
    ap lens_of c.in-Each.is ∙ each_items c.in-Each.rows ∙ ap (λ rows. among (lenses_of rows)) (sym c.deref-in-Each.ensures.value) in
    IfOk-weaker _ _ _ (λ j v. subst (λ l. IsView (scope_of c.args.course.now) c.args.table.now c.on_named.new.table l c.args.at j) (sym is) v) c.on_named.ensures.view

pub anew-returns-in-Each-clause-fault : goal.anew-returns-in-Each-clause-fault
anew-returns-in-Each-clause-fault t c =
    let is : lens_of c.args.term.now ≡ among (lenses_of c.deref-in-Each.result.now) =
    ap lens_of c.in-Each.is ∙ each_items c.in-Each.rows ∙ ap (λ rows. among (lenses_of rows)) (sym c.deref-in-Each.ensures.value) in
    IfErr-weaker _ _ _ (λ e f. told_so c.args.course.now.definition
    (IsAt (scope_of c.args.course.now) c.args.table.now (among (lenses_of c.deref-in-Each.result.now)) c.args.number c.args.at)
    (IsAt (scope_of c.args.course.now) c.args.table.now (lens_of c.args.term.now) c.args.number c.args.at)
    (λ a f. subst (λ l. IsAt (scope_of c.args.course.now) c.args.table.now l c.args.number c.args.at a) (sym is) f) e f) c.on_named.ensures.fault

-- ---- one after the other

pub in_sequence-view-requires : goal.in_sequence-view-requires
in_sequence-view-requires t c = (
  first_falls _ _ t c.decreases,
  sequence_ready c.args.course.now c.args.number (lens_of c.args.first.now) (lens_of c.args.second.now) c.args.table.now c.args.memo.now c.args.at c.requires,
)

pub in_sequence-returns-in_err-between-clause-fault : goal.in_sequence-returns-in_err-between-clause-fault
in_sequence-returns-in_err-between-clause-fault t c =
    let p = err_from_is_err_and c.from_residual.result c.from_residual.ensures.1 in
    let ds = (scope_of c.args.course.now) in
    let l = lens_of c.args.first.now in
    let k = lens_of c.args.second.now in
    rw (p.1, p.2)
    (told_so c.args.course.now.definition (IsAt ds c.args.table.now l (c.args.number + 1) c.args.at) (IsAt ds c.args.table.now (sequence l k) c.args.number c.args.at)
    (sequence_first_at c.args.course.now c.args.number l k c.args.table.now c.args.memo.now c.args.at c.requires)
    c.in_err-between.field-0.0 c.in_err-between.ensures.fault)

pub in_sequence-behind-number-requires : goal.in_sequence-behind-number-requires
in_sequence-behind-number-requires t c =
    sequence_numbered c.args.course.now c.args.number (lens_of c.args.first.now) (lens_of c.args.second.now) c.args.table.now c.args.memo.now c.args.at c.requires

pub in_sequence-view-requires-2 : goal.in_sequence-view-requires-2
in_sequence-view-requires-2 t c =
    let l = lens_of c.args.first.now in
    let k = lens_of c.args.second.now in
    let r = sequence_ready c.args.course.now c.args.number l k c.args.table.now c.args.memo.now c.args.at c.requires in (
      second_falls _ _ t c.decreases,
      then_ready c.args.course.now c.args.number l k c.args.table.now c.args.memo.now c.args.at c.requires c.view.new.table c.view.new.memo c.in_ok-between.between
          c.in_ok-between.ensures.grown c.in_ok-between.ensures.view c.behind-number.result (c.behind-number.ensures l r.stand),
    )

pub in_sequence-returns-in_err-view-clause-fault : goal.in_sequence-returns-in_err-view-clause-fault
in_sequence-returns-in_err-view-clause-fault t c =
    let p = err_from_is_err_and c.from_residual-in_err-view.result c.from_residual-in_err-view.ensures.1 in
    let ds = (scope_of c.args.course.now) in
    let l = lens_of c.args.first.now in
    let k = lens_of c.args.second.now in
    let r = sequence_ready c.args.course.now c.args.number l k c.args.table.now c.args.memo.now c.args.at c.requires in
    rw (p.1, p.2)
    (told_so c.args.course.now.definition (IsAt ds c.view.new.table k c.behind-number.result c.in_ok-between.between) (IsAt ds c.args.table.now (sequence l k) c.args.number c.args.at)
    (sequence_second_at c.args.course.now c.args.number l k c.args.table.now c.args.memo.now c.args.at c.requires c.view.new.table c.view.new.memo c.in_ok-between.between
    c.in_ok-between.ensures.grown c.in_ok-between.ensures.view c.behind-number.result (c.behind-number.ensures l r.stand))
    c.in_err-view.field-0.0 c.in_err-view.ensures.fault)

pub in_sequence-returns-clause-view : goal.in_sequence-returns-clause-view
in_sequence-returns-clause-view t c =
    let l = lens_of c.args.first.now in
    let k = lens_of c.args.second.now in
    let r = sequence_ready c.args.course.now c.args.number l k c.args.table.now c.args.memo.now c.args.at c.requires in
    sequence_view c.args.course.now c.args.number l k c.args.table.now c.args.memo.now c.args.at c.requires c.view.new.table c.view.new.memo c.in_ok-between.between
    c.in_ok-between.ensures.grown c.in_ok-between.ensures.view c.behind-number.result (c.behind-number.ensures l r.stand) c.view-2.new.table c.in_ok-view.field-0
    c.in_ok-view.ensures.view

-- ---- two lenses inside one

pub both-view-requires-2 : goal.both-view-requires-2
both-view-requires-2 t c =
    let l = lens_of c.args.terms.now.first.now in
    let k = lens_of c.args.terms.now.second.now in (
      pair_second_falls _ _ t c.decreases,
      second_ready c.args.course.now c.args.number l k c.args.table.now c.args.memo.now c.args.nodes.0 c.args.nodes.1 c.requires c.view.new.table c.view.new.memo
          c.behind-number.result c.in_ok-first.ensures.grown (c.behind-number.ensures l c.requires.first.stand),
    )

pub both-returns-in_err-second-clause-fault : goal.both-returns-in_err-second-clause-fault
both-returns-in_err-second-clause-fault t c =
    let p = err_from_is_err_and c.from_residual-in_err-second.result c.from_residual-in_err-second.ensures.1 in
    let ds = (scope_of c.args.course.now) in
    let l = lens_of c.args.terms.now.first.now in
    let k = lens_of c.args.terms.now.second.now in
    rw (p.1, p.2)
    (told_so c.args.course.now.definition (IsAt ds c.view.new.table k c.behind-number.result c.args.nodes.1)
    (IsPairAt ds c.args.table.now l k c.args.number c.args.nodes.0 c.args.nodes.1)
    (second_at c.args.course.now c.args.number l k c.args.table.now c.args.memo.now c.args.nodes.0 c.args.nodes.1 c.requires c.view.new.table c.view.new.memo
    c.in_ok-first.first c.behind-number.result c.in_ok-first.ensures.grown c.in_ok-first.ensures.view (c.behind-number.ensures l c.requires.first.stand))
    c.in_err-second.field-0.0 c.in_err-second.ensures.fault)

pub both-returns-clause-views : goal.both-returns-clause-views
both-returns-clause-views t c =
    let l = lens_of c.args.terms.now.first.now in
    let k = lens_of c.args.terms.now.second.now in
    pair_views c.args.course.now c.args.number l k c.args.table.now c.args.memo.now c.args.nodes.0 c.args.nodes.1 c.requires c.view.new.table c.view-2.new.table
    c.view.new.memo c.view-2.new.memo c.in_ok-first.first c.in_ok-second.second c.in_ok-first.ensures.grown c.in_ok-second.ensures.grown
    c.in_ok-first.ensures.view c.in_ok-second.ensures.view

-- ---- in_fork

pub in_fork-returns-in_err-parts-clause-grown : goal.in_fork-returns-in_err-parts-clause-grown
in_fork-returns-in_err-parts-clause-grown t c = grown_by _ _ _ _ _ _ c.requires _ c.parted.ensures.formed c.parted.ensures.extends

pub in_fork-returns-in-None-clause-grown : goal.in_fork-returns-in-None-clause-grown
in_fork-returns-in-None-clause-grown t c = grown_by _ _ _ _ _ _ c.requires _ c.parted.ensures.formed c.parted.ensures.extends

pub in_fork-returns-in-None-clause-fault : goal.in_fork-returns-in-None-clause-fault
in_fork-returns-in-None-clause-fault t c =
    told_at c.args.course.now c.args.table.now (fork c.args.concrete.now c.args.shown.now (lens_of c.args.terms.now.first.now) (lens_of c.args.terms.now.second.now)) c.args.number c.args.at 6 c.unmet.result c.unmet.ensures
    (fork_refused c.args.course.now c.args.number c.args.concrete.now c.args.shown.now (lens_of c.args.terms.now.first.now) (lens_of c.args.terms.now.second.now) c.args.table.now c.args.memo.now c.args.at c.requires (rw c.in-None.is at c.in_ok-parts.ensures.parted))

pub in_fork-both-requires : goal.in_fork-both-requires
in_fork-both-requires t c = (
  pair_falls _ _ t c.decreases,
  pair_ready c.args.course.now c.args.number (fork c.args.concrete.now c.args.shown.now (lens_of c.args.terms.now.first.now) (lens_of c.args.terms.now.second.now)) (lens_of c.args.terms.now.first.now) (lens_of c.args.terms.now.second.now) c.args.table.now c.args.memo.now c.args.at c.requires c.parted.new.table c.parted.ensures.formed c.parted.ensures.extends
      c.in-Some.parts.0 c.in-Some.parts.1 (rw c.in-Some.is at c.in_ok-parts.ensures.in_range)
      (fork_sound c.args.course.now c.args.number c.args.concrete.now c.args.shown.now (lens_of c.args.terms.now.first.now) (lens_of c.args.terms.now.second.now) c.args.table.now c.args.memo.now c.args.at c.requires c.parted.new.table c.parted.ensures.extends c.in-Some.parts.0 c.in-Some.parts.1 (rw c.in-Some.is at c.in_ok-parts.ensures.parted)),
)

pub in_fork-returns-in_err-one-clause-fault : goal.in_fork-returns-in_err-one-clause-fault
in_fork-returns-in_err-one-clause-fault t c =
    let p = err_from_is_err_and c.from_residual-in_err-one.result c.from_residual-in_err-one.ensures.1 in
    rw (p.1, p.2)
    (told_so c.args.course.now.definition (IsPairAt (scope_of c.args.course.now) c.parted.new.table (lens_of c.args.terms.now.first.now) (lens_of c.args.terms.now.second.now) c.args.number c.in-Some.parts.0 c.in-Some.parts.1) (IsAt (scope_of c.args.course.now) c.args.table.now (fork c.args.concrete.now c.args.shown.now (lens_of c.args.terms.now.first.now) (lens_of c.args.terms.now.second.now)) c.args.number c.args.at)
    (fork_pair_at c.args.course.now c.args.number c.args.concrete.now c.args.shown.now (lens_of c.args.terms.now.first.now) (lens_of c.args.terms.now.second.now) c.args.table.now c.args.memo.now c.args.at c.requires c.parted.new.table c.parted.ensures.extends c.in-Some.parts.0 c.in-Some.parts.1 (rw c.in-Some.is at c.in_ok-parts.ensures.parted))
    c.in_err-one.field-0.0 c.in_err-one.ensures.fault)

pub in_fork-returns-in_err-view-clause-grown : goal.in_fork-returns-in_err-view-clause-grown
in_fork-returns-in_err-view-clause-grown t c =
    let g : IsGrown c.args.course.now c.args.table.now c.both.new.table c.both.new.memo =
    grown_then c.args.course.now c.args.table.now c.parted.new.table c.both.new.table c.args.memo.now c.both.new.memo
    (grown_by _ _ _ _ _ _ c.requires _ c.parted.ensures.formed c.parted.ensures.extends) c.in_ok-one.ensures.grown in
    grown_last c.args.course.now c.both.new.table c.joined.new.table c.both.new.memo
    (declared_grown c.args.table.now c.both.new.table c.requires.start.formed g.extends (scope_of c.args.course.now) c.requires.start.declared)
    c.args.table.now g c.joined.ensures.formed c.joined.ensures.extends

pub in_fork-returns-in-Some-2-clause-grown : goal.in_fork-returns-in-Some-2-clause-grown
in_fork-returns-in-Some-2-clause-grown t c =
    let g : IsGrown c.args.course.now c.args.table.now c.both.new.table c.both.new.memo =
    grown_then c.args.course.now c.args.table.now c.parted.new.table c.both.new.table c.args.memo.now c.both.new.memo
    (grown_by _ _ _ _ _ _ c.requires _ c.parted.ensures.formed c.parted.ensures.extends) c.in_ok-one.ensures.grown in
    grown_last c.args.course.now c.both.new.table c.joined.new.table c.both.new.memo
    (declared_grown c.args.table.now c.both.new.table c.requires.start.formed g.extends (scope_of c.args.course.now) c.requires.start.declared)
    c.args.table.now g c.joined.ensures.formed c.joined.ensures.extends

pub in_fork-returns-in-None-2-clause-grown : goal.in_fork-returns-in-None-2-clause-grown
in_fork-returns-in-None-2-clause-grown t c =
    let g : IsGrown c.args.course.now c.args.table.now c.both.new.table c.both.new.memo =
    grown_then c.args.course.now c.args.table.now c.parted.new.table c.both.new.table c.args.memo.now c.both.new.memo
    (grown_by _ _ _ _ _ _ c.requires _ c.parted.ensures.formed c.parted.ensures.extends) c.in_ok-one.ensures.grown in
    grown_last c.args.course.now c.both.new.table c.joined.new.table c.both.new.memo
    (declared_grown c.args.table.now c.both.new.table c.requires.start.formed g.extends (scope_of c.args.course.now) c.requires.start.declared)
    c.args.table.now g c.joined.ensures.formed c.joined.ensures.extends

pub in_fork-returns-in-Some-2-clause-view : goal.in_fork-returns-in-Some-2-clause-view
in_fork-returns-in-Some-2-clause-view t c =
    fork_view c.args.course.now c.args.number c.args.concrete.now c.args.shown.now (lens_of c.args.terms.now.first.now) (lens_of c.args.terms.now.second.now) c.args.table.now c.args.memo.now c.args.at c.requires c.parted.new.table c.parted.ensures.extends c.in-Some.parts.0 c.in-Some.parts.1 (rw c.in-Some.is at c.in_ok-parts.ensures.parted) c.both.new.table c.in_ok-one.one c.in_ok-one.two c.in_ok-one.ensures.views c.joined.new.table c.in-Some-2.view (rw c.in-Some-2.is at c.in_ok-view.ensures.in_range) (rw c.in-Some-2.is at c.in_ok-view.ensures.joined)

pub in_fork-returns-in-None-2-clause-fault : goal.in_fork-returns-in-None-2-clause-fault
in_fork-returns-in-None-2-clause-fault t c =
    told_at c.args.course.now c.args.table.now (fork c.args.concrete.now c.args.shown.now (lens_of c.args.terms.now.first.now) (lens_of c.args.terms.now.second.now)) c.args.number c.args.at 6 c.unmet-in-None-2.result c.unmet-in-None-2.ensures
    (fork_apart c.args.course.now c.args.number c.args.concrete.now c.args.shown.now (lens_of c.args.terms.now.first.now) (lens_of c.args.terms.now.second.now) c.args.table.now c.args.memo.now c.args.at c.requires c.parted.new.table c.parted.ensures.extends c.in-Some.parts.0 c.in-Some.parts.1 (rw c.in-Some.is at c.in_ok-parts.ensures.parted) c.both.new.table c.in_ok-one.one c.in_ok-one.two c.in_ok-one.ensures.views (rw c.in-None-2.is at c.in_ok-view.ensures.joined))

pub in_fork-joined-requires-clause-twins : goal.in_fork-joined-requires-clause-twins
in_fork-joined-requires-clause-twins t c =
    first_twins c.args.course.now c.args.number (fork c.args.concrete.now c.args.shown.now (lens_of c.args.terms.now.first.now) (lens_of c.args.terms.now.second.now)) (lens_of c.args.terms.now.first.now) (lens_of c.args.terms.now.second.now) c.args.table.now c.args.memo.now c.args.at c.requires c.parted.new.table c.parted.ensures.formed c.parted.ensures.extends c.in-Some.parts.0 c.in-Some.parts.1
    (rw c.in-Some.is at c.in_ok-parts.ensures.in_range) (fork_sound c.args.course.now c.args.number c.args.concrete.now c.args.shown.now (lens_of c.args.terms.now.first.now) (lens_of c.args.terms.now.second.now) c.args.table.now c.args.memo.now c.args.at c.requires c.parted.new.table c.parted.ensures.extends c.in-Some.parts.0 c.in-Some.parts.1 (rw c.in-Some.is at c.in_ok-parts.ensures.parted))
    c.both.new.table c.in_ok-one.one c.in_ok-one.ensures.views.first

-- ---- by_concrete

pub by_concrete-returns-in_err-sides-clause-grown : goal.by_concrete-returns-in_err-sides-clause-grown
by_concrete-returns-in_err-sides-clause-grown t c = grown_by _ _ _ _ _ _ c.requires _ c.branched.ensures.formed c.branched.ensures.extends

pub by_concrete-returns-in-None-clause-grown : goal.by_concrete-returns-in-None-clause-grown
by_concrete-returns-in-None-clause-grown t c = grown_by _ _ _ _ _ _ c.requires _ c.branched.ensures.formed c.branched.ensures.extends

pub by_concrete-returns-in-None-clause-fault : goal.by_concrete-returns-in-None-clause-fault
by_concrete-returns-in-None-clause-fault t c =
    told_at c.args.course.now c.args.table.now (on_concrete c.args.name.now (lens_of c.args.terms.now.first.now) (lens_of c.args.terms.now.second.now)) c.args.number c.args.at 12 c.unmet.result c.unmet.ensures
    (concrete_refused c.args.course.now c.args.number c.args.name.now (lens_of c.args.terms.now.first.now) (lens_of c.args.terms.now.second.now) c.args.table.now c.args.memo.now c.args.at c.requires (rw c.in-None.is at c.in_ok-sides.ensures.branched))

pub by_concrete-both-requires : goal.by_concrete-both-requires
by_concrete-both-requires t c = (
  pair_falls _ _ t c.decreases,
  pair_ready c.args.course.now c.args.number (on_concrete c.args.name.now (lens_of c.args.terms.now.first.now) (lens_of c.args.terms.now.second.now)) (lens_of c.args.terms.now.first.now) (lens_of c.args.terms.now.second.now) c.args.table.now c.args.memo.now c.args.at c.requires c.branched.new.table c.branched.ensures.formed c.branched.ensures.extends
      c.in-Some.sides.0 c.in-Some.sides.1 (rw c.in-Some.is at c.in_ok-sides.ensures.in_range)
      (branch_sound c.args.course.now c.args.number c.args.name.now (on_concrete c.args.name.now (lens_of c.args.terms.now.first.now) (lens_of c.args.terms.now.second.now)) (lens_of c.args.terms.now.first.now) (lens_of c.args.terms.now.second.now) c.args.table.now c.args.memo.now c.args.at c.requires c.branched.new.table c.branched.ensures.extends c.in-Some.sides.0 c.in-Some.sides.1 (rw c.in-Some.is at c.in_ok-sides.ensures.branched)),
)

pub by_concrete-returns-in_err-one-clause-fault : goal.by_concrete-returns-in_err-one-clause-fault
by_concrete-returns-in_err-one-clause-fault t c =
    let p = err_from_is_err_and c.from_residual-in_err-one.result c.from_residual-in_err-one.ensures.1 in
    rw (p.1, p.2)
    (told_so c.args.course.now.definition (IsPairAt (scope_of c.args.course.now) c.branched.new.table (lens_of c.args.terms.now.first.now) (lens_of c.args.terms.now.second.now) c.args.number c.in-Some.sides.0 c.in-Some.sides.1) (IsAt (scope_of c.args.course.now) c.args.table.now (on_concrete c.args.name.now (lens_of c.args.terms.now.first.now) (lens_of c.args.terms.now.second.now)) c.args.number c.args.at)
    (concrete_pair_at c.args.course.now c.args.number c.args.name.now (lens_of c.args.terms.now.first.now) (lens_of c.args.terms.now.second.now) c.args.table.now c.args.memo.now c.args.at c.requires c.branched.new.table c.branched.ensures.extends c.in-Some.sides.0 c.in-Some.sides.1 (rw c.in-Some.is at c.in_ok-sides.ensures.branched))
    c.in_err-one.field-0.0 c.in_err-one.ensures.fault)

pub by_concrete-returns-then-same-clause-view : goal.by_concrete-returns-then-same-clause-view
by_concrete-returns-then-same-clause-view t c = concrete_view c.args.course.now c.args.number c.args.name.now (lens_of c.args.terms.now.first.now) (lens_of c.args.terms.now.second.now) c.args.table.now c.args.memo.now c.args.at c.requires c.branched.new.table c.branched.ensures.extends c.in-Some.sides.0 c.in-Some.sides.1 (rw c.in-Some.is at c.in_ok-sides.ensures.branched) c.both.new.table c.in_ok-one.one c.in_ok-one.two c.in_ok-one.ensures.views (c.if-same.ensures.0 refl)

pub by_concrete-returns-else-same-clause-fault : goal.by_concrete-returns-else-same-clause-fault
by_concrete-returns-else-same-clause-fault t c =
    told_at c.args.course.now c.args.table.now (on_concrete c.args.name.now (lens_of c.args.terms.now.first.now) (lens_of c.args.terms.now.second.now)) c.args.number c.args.at 12 c.unmet-else-same.result c.unmet-else-same.ensures
    (concrete_apart c.args.course.now c.args.number c.args.name.now (lens_of c.args.terms.now.first.now) (lens_of c.args.terms.now.second.now) c.args.table.now c.args.memo.now c.args.at c.requires c.branched.new.table c.branched.ensures.extends c.in-Some.sides.0 c.in-Some.sides.1 (rw c.in-Some.is at c.in_ok-sides.ensures.branched) c.both.new.table c.in_ok-one.one c.in_ok-one.two c.in_ok-one.ensures.views (λ s. false≢true (c.if-same.ensures.1 s)))

-- ---- by_view

pub by_view-returns-in_err-sides-clause-grown : goal.by_view-returns-in_err-sides-clause-grown
by_view-returns-in_err-sides-clause-grown t c = grown_by _ _ _ _ _ _ c.requires _ c.branched.ensures.formed c.branched.ensures.extends

pub by_view-returns-in-None-clause-grown : goal.by_view-returns-in-None-clause-grown
by_view-returns-in-None-clause-grown t c = grown_by _ _ _ _ _ _ c.requires _ c.branched.ensures.formed c.branched.ensures.extends

pub by_view-returns-in-None-clause-fault : goal.by_view-returns-in-None-clause-fault
by_view-returns-in-None-clause-fault t c =
    told_at c.args.course.now c.args.table.now (on_view c.args.name.now c.args.shown.now (lens_of c.args.terms.now.first.now) (lens_of c.args.terms.now.second.now)) c.args.number c.args.at 13 c.unmet.result c.unmet.ensures
    (view_refused c.args.course.now c.args.number c.args.name.now c.args.shown.now (lens_of c.args.terms.now.first.now) (lens_of c.args.terms.now.second.now) c.args.table.now c.args.memo.now c.args.at c.requires (rw c.in-None.is at c.in_ok-sides.ensures.branched))

pub by_view-both-requires : goal.by_view-both-requires
by_view-both-requires t c = (
  pair_falls _ _ t c.decreases,
  pair_ready c.args.course.now c.args.number (on_view c.args.name.now c.args.shown.now (lens_of c.args.terms.now.first.now) (lens_of c.args.terms.now.second.now)) (lens_of c.args.terms.now.first.now) (lens_of c.args.terms.now.second.now) c.args.table.now c.args.memo.now c.args.at c.requires c.branched.new.table c.branched.ensures.formed c.branched.ensures.extends
      c.in-Some.sides.0 c.in-Some.sides.1 (rw c.in-Some.is at c.in_ok-sides.ensures.in_range)
      (branch_sound c.args.course.now c.args.number c.args.name.now (on_view c.args.name.now c.args.shown.now (lens_of c.args.terms.now.first.now) (lens_of c.args.terms.now.second.now)) (lens_of c.args.terms.now.first.now) (lens_of c.args.terms.now.second.now) c.args.table.now c.args.memo.now c.args.at c.requires c.branched.new.table c.branched.ensures.extends c.in-Some.sides.0 c.in-Some.sides.1 (rw c.in-Some.is at c.in_ok-sides.ensures.branched)),
)

pub by_view-returns-in_err-one-clause-fault : goal.by_view-returns-in_err-one-clause-fault
by_view-returns-in_err-one-clause-fault t c =
    let p = err_from_is_err_and c.from_residual-in_err-one.result c.from_residual-in_err-one.ensures.1 in
    rw (p.1, p.2)
    (told_so c.args.course.now.definition (IsPairAt (scope_of c.args.course.now) c.branched.new.table (lens_of c.args.terms.now.first.now) (lens_of c.args.terms.now.second.now) c.args.number c.in-Some.sides.0 c.in-Some.sides.1) (IsAt (scope_of c.args.course.now) c.args.table.now (on_view c.args.name.now c.args.shown.now (lens_of c.args.terms.now.first.now) (lens_of c.args.terms.now.second.now)) c.args.number c.args.at)
    (view_pair_at c.args.course.now c.args.number c.args.name.now c.args.shown.now (lens_of c.args.terms.now.first.now) (lens_of c.args.terms.now.second.now) c.args.table.now c.args.memo.now c.args.at c.requires c.branched.new.table c.branched.ensures.extends c.in-Some.sides.0 c.in-Some.sides.1 (rw c.in-Some.is at c.in_ok-sides.ensures.branched))
    c.in_err-one.field-0.0 c.in_err-one.ensures.fault)

pub by_view-returns-in_err-view-clause-grown : goal.by_view-returns-in_err-view-clause-grown
by_view-returns-in_err-view-clause-grown t c =
    let g : IsGrown c.args.course.now c.args.table.now c.both.new.table c.both.new.memo =
    grown_then c.args.course.now c.args.table.now c.branched.new.table c.both.new.table c.args.memo.now c.both.new.memo
    (grown_by _ _ _ _ _ _ c.requires _ c.branched.ensures.formed c.branched.ensures.extends) c.in_ok-one.ensures.grown in
    grown_last c.args.course.now c.both.new.table c.merged.new.table c.both.new.memo
    (declared_grown c.args.table.now c.both.new.table c.requires.start.formed g.extends (scope_of c.args.course.now) c.requires.start.declared)
    c.args.table.now g c.merged.ensures.formed c.merged.ensures.extends

pub by_view-returns-in-Some-2-clause-grown : goal.by_view-returns-in-Some-2-clause-grown
by_view-returns-in-Some-2-clause-grown t c =
    let g : IsGrown c.args.course.now c.args.table.now c.both.new.table c.both.new.memo =
    grown_then c.args.course.now c.args.table.now c.branched.new.table c.both.new.table c.args.memo.now c.both.new.memo
    (grown_by _ _ _ _ _ _ c.requires _ c.branched.ensures.formed c.branched.ensures.extends) c.in_ok-one.ensures.grown in
    grown_last c.args.course.now c.both.new.table c.merged.new.table c.both.new.memo
    (declared_grown c.args.table.now c.both.new.table c.requires.start.formed g.extends (scope_of c.args.course.now) c.requires.start.declared)
    c.args.table.now g c.merged.ensures.formed c.merged.ensures.extends

pub by_view-returns-in-None-2-clause-grown : goal.by_view-returns-in-None-2-clause-grown
by_view-returns-in-None-2-clause-grown t c =
    let g : IsGrown c.args.course.now c.args.table.now c.both.new.table c.both.new.memo =
    grown_then c.args.course.now c.args.table.now c.branched.new.table c.both.new.table c.args.memo.now c.both.new.memo
    (grown_by _ _ _ _ _ _ c.requires _ c.branched.ensures.formed c.branched.ensures.extends) c.in_ok-one.ensures.grown in
    grown_last c.args.course.now c.both.new.table c.merged.new.table c.both.new.memo
    (declared_grown c.args.table.now c.both.new.table c.requires.start.formed g.extends (scope_of c.args.course.now) c.requires.start.declared)
    c.args.table.now g c.merged.ensures.formed c.merged.ensures.extends

pub by_view-returns-in-Some-2-clause-view : goal.by_view-returns-in-Some-2-clause-view
by_view-returns-in-Some-2-clause-view t c =
    view_view c.args.course.now c.args.number c.args.name.now c.args.shown.now (lens_of c.args.terms.now.first.now) (lens_of c.args.terms.now.second.now) c.args.table.now c.args.memo.now c.args.at c.requires c.branched.new.table c.branched.ensures.extends c.in-Some.sides.0 c.in-Some.sides.1 (rw c.in-Some.is at c.in_ok-sides.ensures.branched) c.both.new.table c.in_ok-one.one c.in_ok-one.two c.in_ok-one.ensures.views c.merged.new.table c.first_equal.result c.first_equal.ensures.in_range
    (subst (MergeView c.args.shown.now (form c.both.new.table c.in_ok-one.one) (form c.both.new.table c.in_ok-one.two)) (sym c.first_equal.ensures.form) (rw c.in-Some-2.is at c.in_ok-view.ensures.merged))

pub by_view-returns-in-None-2-clause-fault : goal.by_view-returns-in-None-2-clause-fault
by_view-returns-in-None-2-clause-fault t c =
    told_at c.args.course.now c.args.table.now (on_view c.args.name.now c.args.shown.now (lens_of c.args.terms.now.first.now) (lens_of c.args.terms.now.second.now)) c.args.number c.args.at 13 c.unmet-in-None-2.result c.unmet-in-None-2.ensures
    (view_apart c.args.course.now c.args.number c.args.name.now c.args.shown.now (lens_of c.args.terms.now.first.now) (lens_of c.args.terms.now.second.now) c.args.table.now c.args.memo.now c.args.at c.requires c.branched.new.table c.branched.ensures.extends c.in-Some.sides.0 c.in-Some.sides.1 (rw c.in-Some.is at c.in_ok-sides.ensures.branched) c.both.new.table c.in_ok-one.one c.in_ok-one.two c.in_ok-one.ensures.views (rw c.in-None-2.is at c.in_ok-view.ensures.merged))

-- ---- lists

pub on_items-returns-in-None-clause-fault : goal.on_items-returns-in-None-clause-fault
on_items-returns-in-None-clause-fault t c =
    told_at c.args.course.now c.args.table.now (items (lens_of c.args.inner.now)) c.args.number c.args.at 9 c.unmet.result c.unmet.ensures
    (items_refused c.args.course.now c.args.number (lens_of c.args.inner.now) c.args.table.now c.args.memo.now c.args.at c.requires c.in-None.ensures.list)

pub on_items-view-requires : goal.on_items-view-requires
on_items-view-requires t c = (
  inner_falls _ t c.decreases,
  items_ready c.args.course.now c.args.number (lens_of c.args.inner.now) c.args.table.now c.args.memo.now c.args.at c.requires c.in-Some.source.first
      c.in-Some.source.empty_first c.in-Some.source.some c.in-Some.ensures.list c.in-Some.ensures.in_range,
)

pub on_items-returns-in_err-item-clause-fault : goal.on_items-returns-in_err-item-clause-fault
on_items-returns-in_err-item-clause-fault t c =
    let p = err_from_is_err_and c.from_residual.result c.from_residual.ensures.1 in
    let ds = (scope_of c.args.course.now) in
    let l = lens_of c.args.inner.now in
    rw (p.1, p.2)
    (told_so c.args.course.now.definition (IsAt ds c.args.table.now l (c.args.number + 1) c.in-Some.source.first)
    (IsAt ds c.args.table.now (items l) c.args.number c.args.at)
    (items_at c.args.course.now c.args.number l c.args.table.now c.args.memo.now c.args.at c.requires c.in-Some.source.first
    c.in-Some.source.empty_first c.in-Some.source.some c.in-Some.ensures.list)
    c.in_err-item.field-0.0 c.in_err-item.ensures.fault)

pub on_items-returns-in_err-list_of-clause-grown : goal.on_items-returns-in_err-list_of-clause-grown
on_items-returns-in_err-list_of-clause-grown t c =
    grown_last c.args.course.now c.view.new.table c.list_of.new.table c.view.new.memo
    (declared_grown c.args.table.now c.view.new.table c.requires.start.formed c.in_ok-item.ensures.grown.extends (scope_of c.args.course.now) c.requires.start.declared)
    c.args.table.now c.in_ok-item.ensures.grown c.list_of.ensures.formed c.list_of.ensures.extends

pub on_items-returns-clause-grown : goal.on_items-returns-clause-grown
on_items-returns-clause-grown t c =
    grown_last c.args.course.now c.view.new.table c.list_of.new.table c.view.new.memo
    (declared_grown c.args.table.now c.view.new.table c.requires.start.formed c.in_ok-item.ensures.grown.extends (scope_of c.args.course.now) c.requires.start.declared)
    c.args.table.now c.in_ok-item.ensures.grown c.list_of.ensures.formed c.list_of.ensures.extends

pub on_items-returns-clause-view : goal.on_items-returns-clause-view
on_items-returns-clause-view t c =
    items_view c.args.course.now c.args.number (lens_of c.args.inner.now) c.args.table.now c.args.memo.now c.args.at c.requires c.in-Some.source.first
    c.in-Some.source.empty_first c.in-Some.source.some c.in-Some.ensures.list c.view.new.table c.list_of.new.table c.in_ok-item.item c.in_ok-list_of.field-0
    c.in_ok-item.ensures.view c.in_ok-list_of.ensures.in_range c.in_ok-list_of.ensures.list

-- ---- each child

pub on_each-returns-then-not-is_plain-clause-fault : goal.on_each-returns-then-not-is_plain-clause-fault
on_each-returns-then-not-is_plain-clause-fault t c =
    let n = there c.args.table.now c.args.at.place c.requires.start.in_range in
    told_at c.args.course.now c.args.table.now (each (lens_of c.args.inner.now)) c.args.number c.args.at 7 c.unmet.result c.unmet.ensures
    (each_refused c.args.course.now c.args.number (lens_of c.args.inner.now) c.args.table.now c.args.memo.now c.args.at c.requires n.0 n.1
    (λ plain. false≢true ((c.if-not-is_plain.ensures n.0 n.1).1 plain)))

pub on_each-on_listed-requires : goal.on_each-on_listed-requires
on_each-on_listed-requires t c =
    let g = c.loop-place.invariant.grown in (
      step_falls _ t c.decreases,
      (
        ready_later _ _ _ _ _ _ c.requires c.loop-place.table c.loop-place.memo _ _ g c.requires.stand,
        λ m e.
            let n = there c.args.table.now c.args.at.place c.requires.start.in_range in
            let count = c.count-place-end.ensures n.0 n.1 in
            let same = same_Some n.0 m (sym (extends_at c.args.table.now c.loop-place.table c.args.at.place g.extends c.requires.start.in_range ∙ n.1) ∙ e) in
            subst (λ (m : NodeValue). c.loop-place.place < length m.children) same (omega (arith, count, c.loop-place-test.true)),
      ),
    )

pub on_each-returns-in_err-on_listed-clause-fault : goal.on_each-returns-in_err-on_listed-clause-fault
on_each-returns-in_err-on_listed-clause-fault t c =
    let p = err_from_is_err_and c.from_residual.result c.from_residual.ensures.1 in
    let n = there c.args.table.now c.args.at.place c.requires.start.in_range in
    let i = c.loop-place.invariant in
    let ds = (scope_of c.args.course.now) in
    let l = lens_of c.args.inner.now in
    let now = extends_at c.args.table.now c.loop-place.table c.args.at.place i.grown.extends c.requires.start.in_range ∙ n.1 in
    rw (p.1, p.2)
    (told_so c.args.course.now.definition
    (λ a. (n : NodeValue) → slice_get c.loop-place.table c.args.at.place ≡ Some n → IsListedAt ds c.loop-place.table l (c.args.number + 1) n c.loop-place.place a)
    (IsAt ds c.args.table.now (each l) c.args.number c.args.at)
    (λ a f. listed_at c.args.course.now c.args.number l c.args.table.now c.args.memo.now c.args.at c.requires n.0 n.1 c.loop-place.table i.grown.extends
    c.loop-place.next.items (i.led n.0 n.1) ((c.if-not-is_plain.ensures n.0 n.1).0 refl) a
    (subst (λ p. IsListedAt ds c.loop-place.table l (c.args.number + 1) n.0 p a) (sym i.count) (f n.0 now)))
    c.in_err-on_listed.field-0.0 c.in_err-on_listed.ensures.fault)

pub on_each-loop-place-preserved : goal.on_each-loop-place-preserved
on_each-loop-place-preserved t c =
    let i = c.loop-place.invariant in
    let g = c.in_ok-on_listed.ensures.grown in
    record {
      grown = grown_then c.args.course.now c.args.table.now c.loop-place.table c.on_listed.new.table c.loop-place.memo c.on_listed.new.memo i.grown g;
      led = λ n e.
          let now = extends_at c.args.table.now c.loop-place.table c.args.at.place i.grown.extends c.requires.start.in_range ∙ e in
          subst (AreLed (scope_of c.args.course.now) c.args.table.now c.on_listed.new.table (λ k. where_it_can (can_be n (named k)) (lens_of c.args.inner.now)) n.children)
          (sym c.in_ok-push.ensures.items)
          (each_pushed c.args.course.now c.args.number (lens_of c.args.inner.now) c.args.table.now c.args.memo.now c.args.at c.requires n e c.loop-place.table
          i.grown.extends c.loop-place.next.items (i.led n e) ((c.if-not-is_plain.ensures n e).0 refl) c.on_listed.new.table g.extends c.in_ok-on_listed.field-0
          c.loop-place.place i.count i.grown.formed (c.in_ok-on_listed.ensures.below n now));
      count = ap length c.in_ok-push.ensures.items ∙ pushed_size c.loop-place.next.items c.in_ok-on_listed.field-0 ∙ ap (λ k. k + 1) i.count;
    }

pub on_each-on_other-requires : goal.on_each-on_other-requires
on_each-on_other-requires t c = (
  step_falls _ t c.decreases,
  ready_later _ _ _ _ _ _ c.requires c.loop-place.table c.loop-place.memo _ _ c.loop-place.invariant.grown c.requires.stand,
)

pub on_each-returns-in_err-others-clause-fault : goal.on_each-returns-in_err-others-clause-fault
on_each-returns-in_err-others-clause-fault t c =
    let p = err_from_is_err_and c.from_residual-in_err-others.result c.from_residual-in_err-others.ensures.1 in
    let n = there c.args.table.now c.args.at.place c.requires.start.in_range in
    let i = c.loop-place.invariant in
    let ds = (scope_of c.args.course.now) in
    let l = lens_of c.args.inner.now in
    let now = extends_at c.args.table.now c.loop-place.table c.args.at.place i.grown.extends c.requires.start.in_range ∙ n.1 in
    let end : c.loop-place.place ≡ c.count-place-end.result = search rules in
    rw (p.1, p.2)
    (told_so c.args.course.now.definition
    (λ a. (n : NodeValue) → slice_get c.loop-place.table c.args.at.place ≡ Some n → IsOtherAt ds c.loop-place.table l (c.args.number + 1) n a)
    (IsAt ds c.args.table.now (each l) c.args.number c.args.at)
    (λ a f. other_at c.args.course.now c.args.number l c.args.table.now c.args.memo.now c.args.at c.requires n.0 n.1 c.loop-place.table i.grown.extends
    c.loop-place.next.items (i.led n.0 n.1) ((c.if-not-is_plain.ensures n.0 n.1).0 refl) (i.count ∙ end ∙ c.count-place-end.ensures n.0 n.1) a (f n.0 now))
    c.in_err-others.field-0.0 c.in_err-others.ensures.fault)

pub on_each-over-requires : goal.on_each-over-requires
on_each-over-requires t c =
    let n = there c.args.table.now c.args.at.place c.requires.start.in_range in
    let i = c.loop-place.invariant in
    let g = c.in_ok-others.ensures.grown in
    let ds = (scope_of c.args.course.now) in
    let l = lens_of c.args.inner.now in
    let now = extends_at c.args.table.now c.loop-place.table c.args.at.place i.grown.extends c.requires.start.in_range ∙ n.1 in
    let later = extends_at c.args.table.now c.on_other.new.table c.args.at.place (extends_then _ _ _ i.grown.extends g.extends) c.requires.start.in_range ∙ n.1 in
    let end : c.loop-place.place ≡ c.count-place-end.result = search rules in
    let led = led_grown ds c.args.table.now (λ k. where_it_can (can_be n.0 (named k)) l) n.0.children c.loop-place.next.items c.loop-place.table c.on_other.new.table
    i.grown.formed g.extends (i.led n.0 n.1) in
    let other = each_others c.args.course.now c.args.number l c.args.table.now c.args.memo.now c.args.at c.requires n.0 n.1 c.loop-place.table i.grown.extends
    c.loop-place.next.items (i.led n.0 n.1) ((c.if-not-is_plain.ensures n.0 n.1).0 refl) c.on_other.new.table c.in_ok-others.others (c.in_ok-others.ensures.below n.0 now) in
    can_replace ds c.args.table.now c.on_other.new.table (λ s. where_it_can (can_be n.0 s) l) c.args.at n.0 c.loop-place.next.items c.in_ok-others.others later led
    (i.count ∙ end ∙ c.count-place-end.ensures n.0 n.1) other

pub on_each-returns-in_err-over-clause-grown : goal.on_each-returns-in_err-over-clause-grown
on_each-returns-in_err-over-clause-grown t c =
    let n = there c.args.table.now c.args.at.place c.requires.start.in_range in
    let i = c.loop-place.invariant in
    let g = grown_then c.args.course.now c.args.table.now c.loop-place.table c.on_other.new.table c.loop-place.memo c.on_other.new.memo i.grown c.in_ok-others.ensures.grown in
    let later = extends_at c.args.table.now c.on_other.new.table c.args.at.place g.extends c.requires.start.in_range ∙ n.1 in
    grown_last c.args.course.now c.on_other.new.table c.over.new.table c.on_other.new.memo
    (declared_grown c.args.table.now c.on_other.new.table c.requires.start.formed g.extends (scope_of c.args.course.now) c.requires.start.declared)
    c.args.table.now g c.over.ensures.formed c.over.ensures.extends

pub on_each-returns-clause-grown : goal.on_each-returns-clause-grown
on_each-returns-clause-grown t c =
    let n = there c.args.table.now c.args.at.place c.requires.start.in_range in
    let i = c.loop-place.invariant in
    let g = grown_then c.args.course.now c.args.table.now c.loop-place.table c.on_other.new.table c.loop-place.memo c.on_other.new.memo i.grown c.in_ok-others.ensures.grown in
    let later = extends_at c.args.table.now c.on_other.new.table c.args.at.place g.extends c.requires.start.in_range ∙ n.1 in
    grown_last c.args.course.now c.on_other.new.table c.over.new.table c.on_other.new.memo
    (declared_grown c.args.table.now c.on_other.new.table c.requires.start.formed g.extends (scope_of c.args.course.now) c.requires.start.declared)
    c.args.table.now g c.over.ensures.formed c.over.ensures.extends

pub on_each-returns-clause-view : goal.on_each-returns-clause-view
on_each-returns-clause-view t c =
    let n = there c.args.table.now c.args.at.place c.requires.start.in_range in
    let i = c.loop-place.invariant in
    let g = grown_then c.args.course.now c.args.table.now c.loop-place.table c.on_other.new.table c.loop-place.memo c.on_other.new.memo i.grown c.in_ok-others.ensures.grown in
    let ds = (scope_of c.args.course.now) in
    let l = lens_of c.args.inner.now in
    let now = extends_at c.args.table.now c.loop-place.table c.args.at.place i.grown.extends c.requires.start.in_range ∙ n.1 in
    let later = extends_at c.args.table.now c.on_other.new.table c.args.at.place g.extends c.requires.start.in_range ∙ n.1 in
    let end : c.loop-place.place ≡ c.count-place-end.result = search rules in
    let plain : n.0.twins ≡ [] = (c.if-not-is_plain.ensures n.0 n.1).0 refl in
    let led = led_grown ds c.args.table.now (λ k. where_it_can (can_be n.0 (named k)) l) n.0.children c.loop-place.next.items c.loop-place.table c.on_other.new.table
    i.grown.formed c.in_ok-others.ensures.grown.extends (i.led n.0 n.1) in
    let other = each_others c.args.course.now c.args.number l c.args.table.now c.args.memo.now c.args.at c.requires n.0 n.1 c.loop-place.table i.grown.extends
    c.loop-place.next.items (i.led n.0 n.1) plain c.on_other.new.table c.in_ok-others.others (c.in_ok-others.ensures.below n.0 now) in
    each_view c.args.course.now c.args.number l c.args.table.now c.args.memo.now c.args.at c.requires n.0 n.1 c.on_other.new.table g.extends
    c.loop-place.next.items led plain c.over.new.table c.in_ok-over.field-0 c.in_ok-others.others g.formed
    (i.count ∙ end ∙ c.count-place-end.ensures n.0 n.1) other c.over.ensures.extends (c.in_ok-over.ensures.node n.0 later)

-- ---- the listed names, and all others

pub on_listed-view-requires : goal.on_listed-view-requires
on_listed-view-requires t c =
    let r = c.requires.ready in
    let n = there c.args.table.now c.args.at.place r.start.in_range in
    let k = c.listed-stands.ensures n.0 n.1 in (
      below_falls _ t c.decreases,
      child_ready c.args.course.now c.args.number (lens_of c.args.inner.now) c.args.table.now c.args.memo.now c.args.at r n.0 n.1 (named k.0)
          c.listed-stands.result.0 (at_found n.0.children (formed_at c.args.table.now c.args.at n.0 r.start.formed n.1).ascending c.args.place k.0 c.listed-stands.result.0 k.1.0),
    )

pub on_other-view-requires : goal.on_other-view-requires
on_other-view-requires t c =
    let r = c.requires.ready in
    let n = there c.args.table.now c.args.at.place r.start.in_range in (
      below_falls _ t c.decreases,
      child_ready c.args.course.now c.args.number (lens_of c.args.inner.now) c.args.table.now c.args.memo.now c.args.at r n.0 n.1 others
          c.in-Some.other.1 (ap (option_map (λ (o : Class × NodeId). o.1)) (sym (c.other.ensures n.0 n.1) ∙ c.in-Some.is)),
    )

pub on_other-returns-in_err-view-clause-fault : goal.on_other-returns-in_err-view-clause-fault
on_other-returns-in_err-view-clause-fault t c =
    let p = err_from_is_err_and c.from_residual.result c.from_residual.ensures.1 in
    let ds = (scope_of c.args.course.now) in
    let l = lens_of c.args.inner.now in
    rw (p.1, p.2)
    (told_so c.args.course.now.definition (IsAt ds c.args.table.now l (c.args.number + 1) c.in-Some.other.1)
    (λ a. (n : NodeValue) → slice_get c.args.table.now c.args.at.place ≡ Some n → IsOtherAt ds c.args.table.now l (c.args.number + 1) n a)
    (λ a f n e. record {
      class = c.in-Some.other.0;
      child = c.in-Some.other.1;
      is = sym (c.other.ensures n e) ∙ c.in-Some.is;
      can = sym (c.if-not-lets_some_in.ensures n e);
      fault = f;
    })
    c.in_err-view.field-0.0 c.in_err-view.ensures.fault)

-- ---- named children

pub on_named-returns-then-not-is_plain-clause-fault : goal.on_named-returns-then-not-is_plain-clause-fault
on_named-returns-then-not-is_plain-clause-fault t c =
    let n = there c.args.table.now c.args.at.place c.requires.start.in_range in
    told_at c.args.course.now c.args.table.now (among (lenses_of c.args.rows.now)) c.args.number c.args.at 8 c.unmet.result c.unmet.ensures
    (named_refused c.args.course.now c.args.number c.args.rows.now c.args.table.now c.args.memo.now c.args.at c.requires n.0 n.1
    (λ plain l. false≢true ((c.if-not-is_plain.ensures n.0 n.1).1 plain)))

pub on_named-returns-then-not-are_listed-clause-fault : goal.on_named-returns-then-not-are_listed-clause-fault
on_named-returns-then-not-are_listed-clause-fault t c =
    let n = there c.args.table.now c.args.at.place c.requires.start.in_range in
    told_at c.args.course.now c.args.table.now (among (lenses_of c.args.rows.now)) c.args.number c.args.at 8 c.unmet-then-not-are_listed.result
    c.unmet-then-not-are_listed.ensures
    (named_refused c.args.course.now c.args.number c.args.rows.now c.args.table.now c.args.memo.now c.args.at c.requires n.0 n.1
    (λ plain l. false≢true ((c.if-not-are_listed.ensures n.0 n.1).1 l)))

pub on_named-loop-row-init : goal.on_named-loop-row-init
on_named-loop-row-init t c = record {
  grown = grown_by _ _ _ _ _ _ c.requires c.args.table.now c.requires.start.formed (extends_self c.args.table.now);
  number = omega arith;
  stand = named_stand c.args.course.now c.args.number c.args.rows.now c.args.table.now c.args.memo.now c.args.at c.requires;
  led = λ n e.
      subst (AreLed (scope_of c.args.course.now) c.args.table.now c.args.table.now (λ k. lens_at k (lenses_of (take 0 c.args.rows.now))) n.children)
      (sym (c.in_ok-next.ensures n e))
      (named_start c.args.course.now c.args.number c.args.rows.now c.args.table.now c.args.memo.now c.args.at c.requires n e);
  count = λ n e. ap length (c.in_ok-next.ensures n e) ∙ length-map n.children (λ (c : Name × NodeId). c.1);
}

pub on_named-unwrap-place-requires : goal.on_named-unwrap-place-requires
on_named-unwrap-place-requires t c =
    let n = there c.args.table.now c.args.at.place c.requires.start.in_range in
    let i = c.loop-row.invariant in
    let now = extends_at c.args.table.now c.loop-row.table c.args.at.place i.grown.extends c.requires.start.in_range ∙ n.1 in
    let lt : c.loop-row.row-index < length c.args.rows.now = search rules in
    let at : slice_get c.args.rows.now c.loop-row.row-index ≡ Some c.row-item.result =
    slice_get_read c.args.rows.now _ c.loop-row.row-index c.row-item.result refl lt c.row-item.is in
    place_some n.0 c.row-item.result.0
    (row_listed n.0 c.args.rows.now c.loop-row.row-index c.row-item.result at ((c.if-not-are_listed.ensures n.0 n.1).0 refl))
    c.place_of.result (c.place_of.ensures n.0 now)

pub on_named-index-requires : goal.on_named-index-requires
on_named-index-requires t c =
    let n = there c.args.table.now c.args.at.place c.requires.start.in_range in
    let i = c.loop-row.invariant in
    let now = extends_at c.args.table.now c.loop-row.table c.args.at.place i.grown.extends c.requires.start.in_range ∙ n.1 in
    let lt : c.loop-row.row-index < length c.args.rows.now = search rules in
    let at : slice_get c.args.rows.now c.loop-row.row-index ≡ Some c.row-item.result =
    slice_get_read c.args.rows.now _ c.loop-row.row-index c.row-item.result refl lt c.row-item.is in
    let listed = (c.if-not-are_listed.ensures n.0 n.1).0 refl in
    let placed = place_is n.0 c.row-item.result.0 (row_listed n.0 c.args.rows.now c.loop-row.row-index c.row-item.result at listed)
    c.place_of.result c.unwrap-place.result (c.place_of.ensures n.0 now) c.unwrap-place.ensures in
    let inside : c.unwrap-place.result < length c.loop-row.next.items =
    place_inside c.args.course.now c.args.number c.args.rows.now c.args.table.now c.args.memo.now c.args.at c.requires n.0 n.1 c.loop-row.table c.loop-row.memo
    i.grown c.loop-row.row-index c.row-item.result at c.loop-row.number c.loop-row.next.items (i.led n.0 n.1) (i.count n.0 n.1) i.stand
    c.unwrap-place.result placed.child placed.is in
    search rules

pub on_named-view-requires : goal.on_named-view-requires
on_named-view-requires t c =
    let n = there c.args.table.now c.args.at.place c.requires.start.in_range in
    let i = c.loop-row.invariant in
    let now = extends_at c.args.table.now c.loop-row.table c.args.at.place i.grown.extends c.requires.start.in_range ∙ n.1 in
    let lt : c.loop-row.row-index < length c.args.rows.now = search rules in
    let at : slice_get c.args.rows.now c.loop-row.row-index ≡ Some c.row-item.result =
    slice_get_read c.args.rows.now _ c.loop-row.row-index c.row-item.result refl lt c.row-item.is in
    let listed = (c.if-not-are_listed.ensures n.0 n.1).0 refl in
    let placed = place_is n.0 c.row-item.result.0 (row_listed n.0 c.args.rows.now c.loop-row.row-index c.row-item.result at listed)
    c.place_of.result c.unwrap-place.result (c.place_of.ensures n.0 now) c.unwrap-place.ensures in
    let inside : c.unwrap-place.result < length c.loop-row.next.items =
    place_inside c.args.course.now c.args.number c.args.rows.now c.args.table.now c.args.memo.now c.args.at c.requires n.0 n.1 c.loop-row.table c.loop-row.memo
    i.grown c.loop-row.row-index c.row-item.result at c.loop-row.number c.loop-row.next.items (i.led n.0 n.1) (i.count n.0 n.1) i.stand
    c.unwrap-place.result placed.child placed.is in
    let read : slice_get c.loop-row.next.items c.unwrap-place.result ≡ Some c.index.result.now =
    slice_get_read c.loop-row.next.items _ c.unwrap-place.result c.index.result.now refl inside c.index.ensures in
    let edge = edge_is c.args.course.now c.args.number c.args.rows.now c.args.table.now c.args.memo.now c.args.at c.requires n.0 n.1 c.loop-row.table c.loop-row.memo
    i.grown c.loop-row.row-index c.row-item.result at c.loop-row.number c.loop-row.next.items (i.led n.0 n.1) (i.count n.0 n.1) i.stand
    c.unwrap-place.result placed.child placed.is c.index.result.now read in (
      row_falls c.args.rows.now c.loop-row.row-index c.row-item.result t at c.decreases,
      row_ready c.args.course.now c.args.number c.args.rows.now c.args.table.now c.args.memo.now c.args.at c.requires n.0 n.1 c.loop-row.table c.loop-row.memo
          i.grown c.loop-row.row-index c.row-item.result at c.loop-row.number c.loop-row.next.items (i.led n.0 n.1) (i.count n.0 n.1) i.stand
          c.unwrap-place.result placed.child placed.is c.index.result.now edge,
    )

pub on_named-returns-in_err-next-2-clause-fault : goal.on_named-returns-in_err-next-2-clause-fault
on_named-returns-in_err-next-2-clause-fault t c =
    let p = err_from_is_err_and c.from_residual-in_err-next-2.result c.from_residual-in_err-next-2.ensures.1 in
    let n = there c.args.table.now c.args.at.place c.requires.start.in_range in
    let i = c.loop-row.invariant in
    let now = extends_at c.args.table.now c.loop-row.table c.args.at.place i.grown.extends c.requires.start.in_range ∙ n.1 in
    let lt : c.loop-row.row-index < length c.args.rows.now = search rules in
    let at : slice_get c.args.rows.now c.loop-row.row-index ≡ Some c.row-item.result =
    slice_get_read c.args.rows.now _ c.loop-row.row-index c.row-item.result refl lt c.row-item.is in
    let listed = (c.if-not-are_listed.ensures n.0 n.1).0 refl in
    let placed = place_is n.0 c.row-item.result.0 (row_listed n.0 c.args.rows.now c.loop-row.row-index c.row-item.result at listed)
    c.place_of.result c.unwrap-place.result (c.place_of.ensures n.0 now) c.unwrap-place.ensures in
    let inside : c.unwrap-place.result < length c.loop-row.next.items =
    place_inside c.args.course.now c.args.number c.args.rows.now c.args.table.now c.args.memo.now c.args.at c.requires n.0 n.1 c.loop-row.table c.loop-row.memo
    i.grown c.loop-row.row-index c.row-item.result at c.loop-row.number c.loop-row.next.items (i.led n.0 n.1) (i.count n.0 n.1) i.stand
    c.unwrap-place.result placed.child placed.is in
    let read : slice_get c.loop-row.next.items c.unwrap-place.result ≡ Some c.index.result.now =
    slice_get_read c.loop-row.next.items _ c.unwrap-place.result c.index.result.now refl inside c.index.ensures in
    let edge = edge_is c.args.course.now c.args.number c.args.rows.now c.args.table.now c.args.memo.now c.args.at c.requires n.0 n.1 c.loop-row.table c.loop-row.memo
    i.grown c.loop-row.row-index c.row-item.result at c.loop-row.number c.loop-row.next.items (i.led n.0 n.1) (i.count n.0 n.1) i.stand
    c.unwrap-place.result placed.child placed.is c.index.result.now read in
    let ds = (scope_of c.args.course.now) in
    rw (p.1, p.2)
    (told_so c.args.course.now.definition (IsAt ds c.loop-row.table (lens_of c.row-item.result.1) c.loop-row.number c.index.result.now)
    (IsAt ds c.args.table.now (among (lenses_of c.args.rows.now)) c.args.number c.args.at)
    (row_at c.args.course.now c.args.number c.args.rows.now c.args.table.now c.args.memo.now c.args.at c.requires n.0 n.1 c.loop-row.table c.loop-row.memo
    i.grown c.loop-row.row-index c.row-item.result at c.loop-row.number c.loop-row.next.items (i.led n.0 n.1) (i.count n.0 n.1) i.stand
    c.unwrap-place.result placed.child placed.is i.number ((c.if-not-is_plain.ensures n.0 n.1).0 refl) listed c.index.result.now edge)
    c.in_err-next-2.field-0.0 c.in_err-next-2.ensures.fault)

pub on_named-index_mut-requires : goal.on_named-index_mut-requires
on_named-index_mut-requires t c =
    let n = there c.args.table.now c.args.at.place c.requires.start.in_range in
    let i = c.loop-row.invariant in
    let now = extends_at c.args.table.now c.loop-row.table c.args.at.place i.grown.extends c.requires.start.in_range ∙ n.1 in
    let lt : c.loop-row.row-index < length c.args.rows.now = search rules in
    let at : slice_get c.args.rows.now c.loop-row.row-index ≡ Some c.row-item.result =
    slice_get_read c.args.rows.now _ c.loop-row.row-index c.row-item.result refl lt c.row-item.is in
    let listed = (c.if-not-are_listed.ensures n.0 n.1).0 refl in
    let placed = place_is n.0 c.row-item.result.0 (row_listed n.0 c.args.rows.now c.loop-row.row-index c.row-item.result at listed)
    c.place_of.result c.unwrap-place.result (c.place_of.ensures n.0 now) c.unwrap-place.ensures in
    let inside : c.unwrap-place.result < length c.loop-row.next.items =
    place_inside c.args.course.now c.args.number c.args.rows.now c.args.table.now c.args.memo.now c.args.at c.requires n.0 n.1 c.loop-row.table c.loop-row.memo
    i.grown c.loop-row.row-index c.row-item.result at c.loop-row.number c.loop-row.next.items (i.led n.0 n.1) (i.count n.0 n.1) i.stand
    c.unwrap-place.result placed.child placed.is in
    search rules

pub on_named-behind-number-requires : goal.on_named-behind-number-requires
on_named-behind-number-requires t c =
    let n = there c.args.table.now c.args.at.place c.requires.start.in_range in
    let i = c.loop-row.invariant in
    let now = extends_at c.args.table.now c.loop-row.table c.args.at.place i.grown.extends c.requires.start.in_range ∙ n.1 in
    let lt : c.loop-row.row-index < length c.args.rows.now = search rules in
    let at : slice_get c.args.rows.now c.loop-row.row-index ≡ Some c.row-item.result =
    slice_get_read c.args.rows.now _ c.loop-row.row-index c.row-item.result refl lt c.row-item.is in
    let listed = (c.if-not-are_listed.ensures n.0 n.1).0 refl in
    let placed = place_is n.0 c.row-item.result.0 (row_listed n.0 c.args.rows.now c.loop-row.row-index c.row-item.result at listed)
    c.place_of.result c.unwrap-place.result (c.place_of.ensures n.0 now) c.unwrap-place.ensures in
    let inside : c.unwrap-place.result < length c.loop-row.next.items =
    place_inside c.args.course.now c.args.number c.args.rows.now c.args.table.now c.args.memo.now c.args.at c.requires n.0 n.1 c.loop-row.table c.loop-row.memo
    i.grown c.loop-row.row-index c.row-item.result at c.loop-row.number c.loop-row.next.items (i.led n.0 n.1) (i.count n.0 n.1) i.stand
    c.unwrap-place.result placed.child placed.is in
    record {
      lens = lens_of c.row-item.result.1;
      stand = row_stand c.args.course.now c.args.number c.args.rows.now c.args.table.now c.args.memo.now c.args.at c.requires n.0 n.1 c.loop-row.table c.loop-row.memo
          i.grown c.loop-row.row-index c.row-item.result at c.loop-row.number c.loop-row.next.items (i.led n.0 n.1) (i.count n.0 n.1) i.stand
          c.unwrap-place.result placed.child placed.is;
      sized = c.requires.sized;
    }

pub on_named-loop-row-preserved : goal.on_named-loop-row-preserved
on_named-loop-row-preserved t c =
    let n = there c.args.table.now c.args.at.place c.requires.start.in_range in
    let i = c.loop-row.invariant in
    let now = extends_at c.args.table.now c.loop-row.table c.args.at.place i.grown.extends c.requires.start.in_range ∙ n.1 in
    let lt : c.loop-row.row-index < length c.args.rows.now = search rules in
    let at : slice_get c.args.rows.now c.loop-row.row-index ≡ Some c.row-item.result =
    slice_get_read c.args.rows.now _ c.loop-row.row-index c.row-item.result refl lt c.row-item.is in
    let listed = (c.if-not-are_listed.ensures n.0 n.1).0 refl in
    let placed = place_is n.0 c.row-item.result.0 (row_listed n.0 c.args.rows.now c.loop-row.row-index c.row-item.result at listed)
    c.place_of.result c.unwrap-place.result (c.place_of.ensures n.0 now) c.unwrap-place.ensures in
    let inside : c.unwrap-place.result < length c.loop-row.next.items =
    place_inside c.args.course.now c.args.number c.args.rows.now c.args.table.now c.args.memo.now c.args.at c.requires n.0 n.1 c.loop-row.table c.loop-row.memo
    i.grown c.loop-row.row-index c.row-item.result at c.loop-row.number c.loop-row.next.items (i.led n.0 n.1) (i.count n.0 n.1) i.stand
    c.unwrap-place.result placed.child placed.is in
    let read : slice_get c.loop-row.next.items c.unwrap-place.result ≡ Some c.index.result.now =
    slice_get_read c.loop-row.next.items _ c.unwrap-place.result c.index.result.now refl inside c.index.ensures in
    let edge = edge_is c.args.course.now c.args.number c.args.rows.now c.args.table.now c.args.memo.now c.args.at c.requires n.0 n.1 c.loop-row.table c.loop-row.memo
    i.grown c.loop-row.row-index c.row-item.result at c.loop-row.number c.loop-row.next.items (i.led n.0 n.1) (i.count n.0 n.1) i.stand
    c.unwrap-place.result placed.child placed.is c.index.result.now read in
    let stand = row_stand c.args.course.now c.args.number c.args.rows.now c.args.table.now c.args.memo.now c.args.at c.requires n.0 n.1 c.loop-row.table c.loop-row.memo
    i.grown c.loop-row.row-index c.row-item.result at c.loop-row.number c.loop-row.next.items (i.led n.0 n.1) (i.count n.0 n.1) i.stand
    c.unwrap-place.result placed.child placed.is in
    let next : c.behind-number.result ≡ c.loop-row.number + size_of (lens_of c.row-item.result.1) = c.behind-number.ensures (lens_of c.row-item.result.1) stand in
    let size = size_next c.args.rows.now c.loop-row.row-index c.row-item.result at in
    record {
      grown = grown_then c.args.course.now c.args.table.now c.loop-row.table c.view.new.table c.loop-row.memo c.view.new.memo i.grown c.in_ok-next-2.ensures.grown;
      number = omega (arith, next, size, i.number);
      stand = row_next c.args.course.now c.args.number c.args.rows.now c.args.table.now c.args.memo.now c.args.at c.requires n.0 n.1 c.loop-row.table c.loop-row.memo
          i.grown c.loop-row.row-index c.row-item.result at c.loop-row.number c.loop-row.next.items (i.led n.0 n.1) (i.count n.0 n.1) i.stand
          c.unwrap-place.result placed.child placed.is c.behind-number.result next;
      led = λ m e.
          let same : n.0 ≡ m = same_Some n.0 m (sym n.1 ∙ e) in
          subst (λ (m : NodeValue). AreLed (scope_of c.args.course.now) c.args.table.now c.view.new.table
          (λ k. lens_at k (lenses_of (take (c.loop-row.row-index + 1) c.args.rows.now))) m.children
          (slice_set c.loop-row.next.items c.unwrap-place.result c.in_ok-next-2.field-0)) same
          (row_led c.args.course.now c.args.number c.args.rows.now c.args.table.now c.args.memo.now c.args.at c.requires n.0 n.1 c.loop-row.table c.loop-row.memo
          i.grown c.loop-row.row-index c.row-item.result at c.loop-row.number c.loop-row.next.items (i.led n.0 n.1) (i.count n.0 n.1) i.stand
          c.unwrap-place.result placed.child placed.is c.view.new.table c.view.new.memo c.index.result.now c.in_ok-next-2.field-0 edge c.in_ok-next-2.ensures.grown c.in_ok-next-2.ensures.view);
      count = λ m e. length-set c.loop-row.next.items c.unwrap-place.result c.in_ok-next-2.field-0 ∙ i.count m e;
    }

pub on_named-over-requires : goal.on_named-over-requires
on_named-over-requires t c =
    let n = there c.args.table.now c.args.at.place c.requires.start.in_range in
    let i = c.loop-row.invariant in
    let now = extends_at c.args.table.now c.loop-row.table c.args.at.place i.grown.extends c.requires.start.in_range ∙ n.1 in
    let on = named_on (lenses_of (take c.loop-row.row-index c.args.rows.now)) in
    can_replace (scope_of c.args.course.now) c.args.table.now c.loop-row.table on c.args.at n.0 c.loop-row.next.items c.other-others.result now
    (i.led n.0 n.1) (i.count n.0 n.1)
    (subst (λ o. AreOthersLed (scope_of c.args.course.now) c.args.table.now c.loop-row.table None n.0.other o) (sym (c.other-others.ensures n.0 now))
    (none_led c.args.course.now c.args.number c.args.rows.now c.args.table.now c.args.memo.now c.args.at c.requires n.0 n.1 c.loop-row.table i.grown.extends))

pub on_named-returns-in_err-over-clause-grown : goal.on_named-returns-in_err-over-clause-grown
on_named-returns-in_err-over-clause-grown t c =
    let n = there c.args.table.now c.args.at.place c.requires.start.in_range in
    let g = c.loop-row.invariant.grown in
    let now = extends_at c.args.table.now c.loop-row.table c.args.at.place g.extends c.requires.start.in_range ∙ n.1 in
    grown_last c.args.course.now c.loop-row.table c.over.new.table c.loop-row.memo
    (declared_grown c.args.table.now c.loop-row.table c.requires.start.formed g.extends (scope_of c.args.course.now) c.requires.start.declared)
    c.args.table.now g c.over.ensures.formed c.over.ensures.extends

pub on_named-returns-clause-grown : goal.on_named-returns-clause-grown
on_named-returns-clause-grown t c =
    let n = there c.args.table.now c.args.at.place c.requires.start.in_range in
    let g = c.loop-row.invariant.grown in
    let now = extends_at c.args.table.now c.loop-row.table c.args.at.place g.extends c.requires.start.in_range ∙ n.1 in
    grown_last c.args.course.now c.loop-row.table c.over.new.table c.loop-row.memo
    (declared_grown c.args.table.now c.loop-row.table c.requires.start.formed g.extends (scope_of c.args.course.now) c.requires.start.declared)
    c.args.table.now g c.over.ensures.formed c.over.ensures.extends

pub on_named-returns-clause-view : goal.on_named-returns-clause-view
on_named-returns-clause-view t c =
    let n = there c.args.table.now c.args.at.place c.requires.start.in_range in
    let i = c.loop-row.invariant in
    let now = extends_at c.args.table.now c.loop-row.table c.args.at.place i.grown.extends c.requires.start.in_range ∙ n.1 in
    let all : take c.loop-row.row-index c.args.rows.now ≡ c.args.rows.now = take_all c.loop-row.row-index c.args.rows.now (search rules) in
    let led = subst (λ rows. AreLed (scope_of c.args.course.now) c.args.table.now c.loop-row.table (λ k. lens_at k (lenses_of rows)) n.0.children c.loop-row.next.items)
    all (i.led n.0 n.1) in
    named_view c.args.course.now c.args.number c.args.rows.now c.args.table.now c.args.memo.now c.args.at c.requires n.0 n.1 c.loop-row.table c.over.new.table
    i.grown.extends c.loop-row.next.items c.in_ok-over.field-0 i.grown.formed ((c.if-not-is_plain.ensures n.0 n.1).0 refl)
    ((c.if-not-are_listed.ensures n.0 n.1).0 refl) led (i.count n.0 n.1)
    c.over.ensures.extends (c.in_ok-over.ensures.node n.0 now ∙ ap (λ o. Some (replaced n.0 c.loop-row.next.items o)) (c.other-others.ensures n.0 now))
