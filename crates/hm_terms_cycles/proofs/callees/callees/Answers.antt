use Rattle.hm_terms_cycles.proofs.Bodies.{from_none, one_called}
use Rattle.hm_terms_cycles.proofs.callees.callees.Goals as goal

pub loop-definition-preserved : goal.loop-definition-preserved
loop-definition-preserved c =
    one_called c.args.definitions.now c.args.places.now c.loop-definition.definition-index _ c.loop-definition-test.true c.definition-item.is _ _ _
    c.loop-definition.invariant c.in_ok-push.ensures.items (from_none _ _ _ c.in_ok-set.ensures.none c.in_ok-add_calls.ensures.adds)
