use Rattle.std.proofs.Common.{Bool, List, refl, sym, ap, ◌∙◌, subst, length}
use Rattle.std.specs.Prelude.{IsTrue, ◌↔◌, ◌||◌}
use Rattle.std.proofs.lemmas.Option.{slice_get_read}
use mathlib.Core.Bool.{true≢false}
use Rattle.hm_schema_lines.specs.Firsts.{FirstPlaces}
use Rattle.hm_tree.specs.Names.{Name}
use Rattle.hm_terms.specs.declared.term.Term.{Term}
use Rattle.hm_terms.specs.Lenses.{among}
use Rattle.hm_terms.specs.Programs.{lens_of, lenses_of}
use Rattle.hm_terms.proofs.Rows.{each_items}
use Rattle.hm_focal.specs.Judging.{CallsOther}
use Rattle.hm_focal.proofs.Called.{none_first, none_next, none_calls, one_calls, call_told, each_told, items_told, sequence_told, fork_told, concrete_told, view_told, always, never, none_told}
use Rattle.hm_focal.proofs.calls.+calls_other.Goals as goal

-- what is told of a term
abbrev IsTold : FirstPlaces → Bool → Term → Type 0
IsTold table b t = IsTrue b ↔ CallsOther table (lens_of t)

pub loop-term-init : goal.loop-term-init
loop-term-init t c = none_first c.args.lenses.now c.deref-term-items.result.now

pub returns-then-calls_other : goal.returns-then-calls_other
returns-then-calls_other t c = always
    (subst (CallsOther c.args.lenses.now)
    (sym (ap lens_of c.in-Each.is ∙ each_items c.in-Each.terms ∙ ap (λ (z : List (Name × Term)). among (lenses_of z)) (sym c.deref-term-items.ensures.value)))
    (one_calls c.args.lenses.now c.deref-term-items.result.now c.loop-term.term-index c.term-item.result
    (slice_get_read c.deref-term-items.result.now (length c.deref-term-items.result.now) c.loop-term.term-index c.term-item.result refl
    c.loop-term-test.true c.term-item.is)
    (c.calls_other-in-loop-term.ensures.0 c.if-calls_other.true)))

pub loop-term-preserved : goal.loop-term-preserved
loop-term-preserved t c =
    none_next c.args.lenses.now c.deref-term-items.result.now c.loop-term.term-index c.term-item.result
    (slice_get_read c.deref-term-items.result.now (length c.deref-term-items.result.now) c.loop-term.term-index c.term-item.result refl
    c.loop-term-test.true c.term-item.is)
    c.loop-term.invariant (λ calls. true≢false (sym (c.calls_other-in-loop-term.ensures.1 calls) ∙ c.if-calls_other.false))

pub returns-after-loop-term : goal.returns-after-loop-term
returns-after-loop-term t c = never (λ calls.
    none_calls c.args.lenses.now c.deref-term-items.result.now c.loop-term.term-index c.loop-term-test.false c.loop-term.invariant
    (subst (CallsOther c.args.lenses.now)
    (ap lens_of c.in-Each.is ∙ each_items c.in-Each.terms ∙ ap (λ (z : List (Name × Term)). among (lenses_of z)) (sym c.deref-term-items.ensures.value))
    calls))

pub returns-in-Call : goal.returns-in-Call
returns-in-Call t c =
    subst (IsTold c.args.lenses.now c.is_none.result) (sym c.in-Call.is)
    (call_told c.args.lenses.now c.in-Call.name c.first_place.result c.first_place.ensures c.is_none.result
    (none_told c.first_place.result c.is_none.result c.is_none.ensures))

pub returns-in-Map : goal.returns-in-Map
returns-in-Map t c =
    subst (IsTold c.args.lenses.now c.calls_other.result) (sym c.in-Map.is)
    (each_told c.args.lenses.now (lens_of c.in-Map.inner.value) c.calls_other.result
    (subst (IsTold c.args.lenses.now c.calls_other.result) c.deref.ensures c.calls_other.ensures))

pub returns-in-List : goal.returns-in-List
returns-in-List t c =
    subst (IsTold c.args.lenses.now c.calls_other-in-List.result) (sym c.in-List.is)
    (items_told c.args.lenses.now (lens_of c.in-List.inner.value) c.calls_other-in-List.result
    (subst (IsTold c.args.lenses.now c.calls_other-in-List.result) c.deref-in-List.ensures c.calls_other-in-List.ensures))

pub returns-in-Seq : goal.returns-in-Seq
returns-in-Seq t c =
    subst (IsTold c.args.lenses.now (c.calls_other-in-Seq.result || c.calls_other-in-Seq-2.result)) (sym c.in-Seq.is)
    (sequence_told c.args.lenses.now (lens_of c.in-Seq.first.value) (lens_of c.in-Seq.second.value)
    c.calls_other-in-Seq.result c.calls_other-in-Seq-2.result
    (subst (IsTold c.args.lenses.now c.calls_other-in-Seq.result) c.deref-in-Seq.ensures c.calls_other-in-Seq.ensures)
    (subst (IsTold c.args.lenses.now c.calls_other-in-Seq-2.result) c.deref-in-Seq-2.ensures c.calls_other-in-Seq-2.ensures))

pub returns-in-Fork : goal.returns-in-Fork
returns-in-Fork t c =
    subst (IsTold c.args.lenses.now (c.calls_other-in-Fork.result || c.calls_other-in-Fork-2.result)) (sym c.in-Fork.is)
    (fork_told c.args.lenses.now (lens_of c.in-Fork.inside.value) (lens_of c.in-Fork.outside.value)
    c.calls_other-in-Fork.result c.calls_other-in-Fork-2.result
    (subst (IsTold c.args.lenses.now c.calls_other-in-Fork.result) c.deref-in-Fork.ensures c.calls_other-in-Fork.ensures)
    (subst (IsTold c.args.lenses.now c.calls_other-in-Fork-2.result) c.deref-in-Fork-2.ensures c.calls_other-in-Fork-2.ensures)
    c.in-Fork.concrete c.in-Fork.shown)

pub returns-in-ByConcrete : goal.returns-in-ByConcrete
returns-in-ByConcrete t c =
    subst (IsTold c.args.lenses.now (c.calls_other-in-ByConcrete.result || c.calls_other-in-ByConcrete-2.result)) (sym c.in-ByConcrete.is)
    (concrete_told c.args.lenses.now (lens_of c.in-ByConcrete.yes.value) (lens_of c.in-ByConcrete.no.value)
    c.calls_other-in-ByConcrete.result c.calls_other-in-ByConcrete-2.result
    (subst (IsTold c.args.lenses.now c.calls_other-in-ByConcrete.result) c.deref-in-ByConcrete.ensures c.calls_other-in-ByConcrete.ensures)
    (subst (IsTold c.args.lenses.now c.calls_other-in-ByConcrete-2.result) c.deref-in-ByConcrete-2.ensures c.calls_other-in-ByConcrete-2.ensures)
    c.in-ByConcrete.name)

pub returns-in-ByView : goal.returns-in-ByView
returns-in-ByView t c =
    subst (IsTold c.args.lenses.now (c.calls_other-in-ByView.result || c.calls_other-in-ByView-2.result)) (sym c.in-ByView.is)
    (view_told c.args.lenses.now (lens_of c.in-ByView.yes.value) (lens_of c.in-ByView.no.value)
    c.calls_other-in-ByView.result c.calls_other-in-ByView-2.result
    (subst (IsTold c.args.lenses.now c.calls_other-in-ByView.result) c.deref-in-ByView.ensures c.calls_other-in-ByView.ensures)
    (subst (IsTold c.args.lenses.now c.calls_other-in-ByView-2.result) c.deref-in-ByView-2.ensures c.calls_other-in-ByView-2.ensures)
    c.in-ByView.name c.in-ByView.shown)
