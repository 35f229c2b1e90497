use Rattle.hm_terms_cycles.proofs.Naming.{known_name, put_known, put_new}
use Rattle.hm_terms_cycles.proofs.places.add_name.Goals as goal

pub returns-in-Ok-clause-put : goal.returns-in-Ok-clause-put
returns-in-Ok-clause-put v c = put_known _ _ _ c.requires _ c.deref.ensures.value _ c.in-Ok.ensures.found

pub returns-in-Ok-clause-added : goal.returns-in-Ok-clause-added
returns-in-Ok-clause-added v c = known_name _ c.args.place _ c.requires _ c.deref.ensures.value _ c.in-Ok.ensures.found

pub returns-in_ok-insert-in-Err-clause-put : goal.returns-in_ok-insert-in-Err-clause-put
returns-in_ok-insert-in-Err-clause-put v c =
    put_new _ _ _ c.requires _ c.deref.ensures.value _ _ _ c.in-Err.ensures.absent c.in_ok-copy-in-Err.ensures.value c.in_ok-insert-in-Err.ensures.items
