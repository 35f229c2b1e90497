use Rattle.std.proofs.Common.{◌≡◌, sym, ◌∙◌, subst}
use Rattle.std.specs.List.{Contains}
use Rattle.hm_terms_cycles.proofs.Marks.{one_more, one_there}
use Rattle.hm_terms_cycles.proofs.Adding.{adds_there}
use Rattle.hm_terms_cycles.proofs.call_set.CallSet.add.Goals as goal

pub returns-in_ok-push-clause-set : goal.returns-in_ok-push-clause-set
returns-in_ok-push-clause-set c =
    one_more _ _ _ c.args.call _ _ _ c.requires.set c.requires.known c.index.ensures c.index_mut.ensures.value
    (sym c.has.ensures ∙ c.if-not-has.true) c.in_ok-push.ensures.items c.add.ensures

pub returns-else-not-has-clause-adds : goal.returns-else-not-has-clause-adds
returns-else-not-has-clause-adds c =
    adds_there (λ x. x ≡ c.args.call) _ (λ x e. subst (Contains c.args.self.now.calls.items) (sym e)
    (one_there _ _ c.args.call _ c.requires.set c.requires.known c.index.ensures (sym c.has.ensures ∙ c.if-not-has.false)))
