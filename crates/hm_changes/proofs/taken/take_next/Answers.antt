use Rattle.std.proofs.Common.{◌∙◌, sym}
use Rattle.hm_changes.proofs.Taking.{old_first, new_first, both_first}
use Rattle.hm_changes.proofs.taken.take_next.Goals as goal

pub returns-in-Less : goal.returns-in-Less
returns-in-Less c = old_first _ _ c.requires.olds c.requires.news c.in-Some-Some.one.now c.in-Some-Some.two.now c.in-Some-Some.ones.now c.in-Some-Some.twos.now
    c.in-Some-Some.ensures.cases.0 c.in-Some-Some.ensures'.cases.0 (sym c.order.ensures ∙ c.in-Less.is)

pub returns-in-Equal : goal.returns-in-Equal
returns-in-Equal c = both_first _ _ c.requires.olds c.requires.news c.in-Some-Some.one.now c.in-Some-Some.two.now c.in-Some-Some.ones.now c.in-Some-Some.twos.now
    c.in-Some-Some.ensures.cases.0 c.in-Some-Some.ensures'.cases.0 (sym c.order.ensures ∙ c.in-Equal.is)

pub returns-in-Greater : goal.returns-in-Greater
returns-in-Greater c = new_first _ _ c.requires.olds c.requires.news c.in-Some-Some.one.now c.in-Some-Some.two.now c.in-Some-Some.ones.now c.in-Some-Some.twos.now
    c.in-Some-Some.ensures.cases.0 c.in-Some-Some.ensures'.cases.0 (sym c.order.ensures ∙ c.in-Greater.is)
