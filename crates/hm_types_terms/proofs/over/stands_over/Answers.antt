use Rattle.std.proofs.Common.{refl, sym, ◌∙◌}
use Rattle.std.proofs.lemmas.Option.{same_Some}
use Rattle.hm_types_table.specs.Tables.{seat}
use Rattle.hm_types_terms.proofs.StandsOver.{itself}
use Rattle.hm_types_terms.proofs.over.stands_over.Goals as goal

pub returns-then-equal_ends-clause-over : goal.returns-then-equal_ends-clause-over
returns-then-equal_ends-clause-over c t n e =
    let k = c.at.result.0.now in
    let v = c.at.result.1.now in
    itself k v c.args.next.now c.args.other c.at.ensures.count (sym c.deref.ensures.value ∙ c.if-equal_ends.ensures.0 refl) (c.equal_others.ensures.0 t) n
    (same_Some n (seat k v) (sym e ∙ c.at.ensures.node))
