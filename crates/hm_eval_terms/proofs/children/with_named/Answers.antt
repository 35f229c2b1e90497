use Rattle.hm_eval_terms.proofs.Giving.{slots_sorted, term_before}
use Rattle.hm_eval_terms.proofs.children.with_named.Goals as goal

pub give-requires : goal.give-requires
give-requires c = slots_sorted _ _ _ c.loop-at.invariant

pub loop-at-preserved : goal.loop-at-preserved
loop-at-preserved c =
    term_before c.args.terms.now c.loop-at.at _ _ c.args.tree _ _ c.loop-at-test.true c.loop-at.auto.at c.index-terms-at.is c.index-terms-at-in-loop-at.is
    c.loop-at.invariant c.give.ensures
