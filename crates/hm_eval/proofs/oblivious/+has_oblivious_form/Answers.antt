use Rattle.std.proofs.Common.{rules, ◌≡◌, ◌&&◌, false, suc, List, length, drop, slice_get, Some, refl, sym, ap, ◌∙◌}
use Rattle.std.proofs.lemmas.Option.{slice_get_read}
use Rattle.hm_tree.specs.Names.{Name}
use Rattle.hm_terms.specs.declared.term.Term.{Term}
use Rattle.hm_terms.specs.Lenses.{among}
use Rattle.hm_terms.specs.Programs.{lens_of, lenses_of}
use Rattle.hm_terms.proofs.Rows.{each_items}
use Rattle.hm_eval.specs.Oblivious.{oblivious, oblivious_all}
use Rattle.hm_eval.proofs.WithoutBefore.{row_next, none_left}
use Rattle.hm_eval.proofs.oblivious.+has_oblivious_form.Goals as goal

pub returns-then-not-has_oblivious_form : goal.returns-then-not-has_oblivious_form
returns-then-not-has_oblivious_form t c =
    let at : slice_get c.deref-term-items.result.now c.loop-term.term-index ≡ Some c.term-item.result =
    slice_get_read c.deref-term-items.result.now (length c.deref-term-items.result.now) c.loop-term.term-index c.term-item.result refl
    c.loop-term-test.true c.term-item.is in
    let no : oblivious (lens_of c.term-item.result.1) ≡ false = search rules in
    sym (ap oblivious
    (ap lens_of c.in-Each.is ∙ each_items c.in-Each.terms ∙ ap (λ (z : List (Name × Term)). among (lenses_of z)) (sym c.deref-term-items.ensures.value))
    ∙ c.loop-term.invariant ∙ row_next c.deref-term-items.result.now c.loop-term.term-index c.term-item.result at
    ∙ ap (λ b. b && oblivious_all (lenses_of (drop (suc c.loop-term.term-index) c.deref-term-items.result.now))) no)

pub returns-after-loop-term : goal.returns-after-loop-term
returns-after-loop-term t c =
    sym (ap oblivious
    (ap lens_of c.in-Each.is ∙ each_items c.in-Each.terms ∙ ap (λ (z : List (Name × Term)). among (lenses_of z)) (sym c.deref-term-items.ensures.value))
    ∙ c.loop-term.invariant ∙ none_left c.deref-term-items.result.now c.loop-term.term-index c.loop-term-test.false)
