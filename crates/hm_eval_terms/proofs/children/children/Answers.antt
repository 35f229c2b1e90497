use Rattle.hm_eval_terms.proofs.Giving.{named_are}
use Rattle.hm_eval_terms.proofs.children.children.Goals as goal

pub returns-in_ok-with_named-in-Each : goal.returns-in_ok-with_named-in-Each
returns-in_ok-with_named-in-Each c = named_are _ _ _ _ _ c.in-Each.is c.deref-in-Each.ensures.value c.in_ok-with_named-in-Each.ensures
