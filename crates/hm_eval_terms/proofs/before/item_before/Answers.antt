use Rattle.std.proofs.Common.{sym, ap, ◌∙◌}
use Rattle.hm_tree.specs.Archives.{under}
use Rattle.hm_tree_parts.specs.Lists.{head, tail}
use Rattle.hm_tree_parts.proofs.OneList.{below-head, below-tail}
use Rattle.hm_eval_terms.proofs.before.item_before.Goals as goal

pub returns-in-Some-take_first-clause-first : goal.returns-in-Some-take_first-clause-first
returns-in-Some-take_first-clause-first c = sym (ap (under head) c.in-Some.is ∙ below-head _ _ _ c.in-Some-take_first.ensures)

pub returns-in-Some-take_first-clause-others : goal.returns-in-Some-take_first-clause-others
returns-in-Some-take_first-clause-others c = sym (ap (under tail) c.in-Some.is ∙ below-tail _ _ _ c.in-Some-take_first.ensures)
