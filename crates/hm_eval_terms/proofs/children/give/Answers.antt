use Rattle.hm_eval_terms.proofs.Giving.{given_here, given_none}
use Rattle.hm_eval_terms.proofs.children.give.Goals as goal

pub returns-in-Ok : goal.returns-in-Ok
returns-in-Ok c = given_here _ c.args.lens _ _ c.deref.ensures.value _ _ c.requires c.in-Ok.ensures.found c.index_mut.ensures.value

pub returns-in_default : goal.returns-in_default
returns-in_default c = given_none _ c.args.lens _ _ c.deref.ensures.value c.in_default.ensures.absent.absent
