use Rattle.hm_terms_cycles.proofs.Naming.{places_more}
use Rattle.hm_terms_cycles.proofs.places.places_of.Goals as goal

pub loop-i-preserved : goal.loop-i-preserved
loop-i-preserved c =
    places_more c.args.definitions.now c.loop-i.i _ _ _ c.loop-i-test.true c.index-definitions-i.is c.loop-i.invariant c.in_ok-add_name.ensures.put
