use Rattle.std.proofs.Common.{sym, ◌∙◌}
use Rattle.std.proofs.lemmas.Option.{none-some}
use Rattle.hm_terms.specs.Lenses.{text}
use Rattle.hm_types_rules.specs.Faults.{fault_text}
use Rattle.hm_types_terms.proofs.Telling.{told_at}
use Rattle.hm_types_terms.proofs.leaves.text.Goals as goal

pub returns-in-None-clause-fault : goal.returns-in-None-clause-fault
returns-in-None-clause-fault c =
    told_at c.args.course.now c.args.table.now (text c.args.name.now) c.args.number c.args.at 14 c.unmet.result c.unmet.ensures
    (λ types t. fault_text (λ from into w e a.
    none-some (from, into) (sym c.in-None.is ∙ c.classes_named.ensures ∙ sym (t.texts c.args.name.now) ∙ e)))

pub returns-in-None-2-clause-fault : goal.returns-in-None-2-clause-fault
returns-in-None-2-clause-fault c =
    told_at c.args.course.now c.args.table.now (text c.args.name.now) c.args.number c.args.at 14 c.unmet-in-None-2.result c.unmet-in-None-2.ensures
    (λ types t. (rw c.in-None-2.is at c.in_ok-view.ensures.valued) types c.args.name.now c.args.number
    (t.texts c.args.name.now ∙ sym c.classes_named.ensures ∙ c.in-Some.is))
