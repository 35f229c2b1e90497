use Rattle.lens_trials.proofs.Trying.{can_show, can_put_copies, puts_copy_back}
use Rattle.lens_trials.proofs.runs.say_otherwise.Goals as goal

pub get-requires : goal.get-requires
get-requires g c = can_show c.requires.fits _ c.requires.before

pub put_changes-requires-clause-put : goal.put_changes-requires-clause-put
put_changes-requires-clause-put g c =
    can_put_copies c.requires.fits _ _ _ _ c.in_ok-edited.ensures c.in_ok-from.ensures c.requires.view c.requires.before

pub put_changes-requires-clause-back : goal.put_changes-requires-clause-back
put_changes-requires-clause-back g c = puts_copy_back c.requires.fits _ _ _ c.in_ok-from.ensures c.requires.before c.in_ok-old.ensures
