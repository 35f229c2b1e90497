use Rattle.lens_trials.proofs.Trying.{can_show, in_view, can_put, same_tree}
use Rattle.lens_trials.proofs.trials.is_put_back.Goals as goal

pub get-requires : goal.get-requires
get-requires g c = can_show c.requires.fits _ c.requires.tree

pub put-requires : goal.put-requires
put-requires g c = can_put c.requires.fits _ _ (in_view c.requires.fits _ _ c.requires.tree c.in_ok-shown.ensures) c.requires.tree

pub returns : goal.returns
returns g c = c.same.ensures.1 (same_tree c.requires.fits _ _ _ c.requires.tree c.in_ok-shown.ensures c.in_ok-back.ensures)
