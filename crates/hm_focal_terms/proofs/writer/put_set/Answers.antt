use Rattle.hm_tree.proofs.Ascending.{ascending_is}
use Rattle.hm_focal_terms.proofs.Writing.{set_put}
use Rattle.hm_focal_terms.proofs.writer.put_set.Goals as goal
use Rattle.hm_facts.proofs.Results.{on_ok}

pub returns : goal.returns
returns c =
    on_ok _ _ c.put.result (λ n. set_put _ _ _ _ _ _ _ c.in_ok-push.ensures.items c.in_ok-put_names.ensures c.in_ok-push-2.ensures.items
    (ascending_is _ _ c.names.ensures.ascending c.names.ensures.same) _ n) c.put.ensures
