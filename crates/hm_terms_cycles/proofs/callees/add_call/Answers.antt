use Rattle.hm_terms_cycles.proofs.LensCalls.{adds_call, adds_no_call}
use Rattle.hm_terms_cycles.proofs.callees.add_call.Goals as goal

pub returns-in_ok-add-clause-adds : goal.returns-in_ok-add-clause-adds
returns-in_ok-add-clause-adds c =
    adds_call c.args.places.now c.args.sequence c.args.children c.args.name.now _ _ _ (c.in-Ok.ensures.found.found _) c.in_ok-add.ensures.adds

pub returns-in_default-clause-adds : goal.returns-in_default-clause-adds
returns-in_default-clause-adds c =
    adds_no_call c.args.places.now c.args.sequence c.args.children c.args.name.now _ c.in_default.ensures.absent.absent
