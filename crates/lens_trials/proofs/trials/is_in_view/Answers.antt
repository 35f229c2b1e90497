use Rattle.lens_trials.proofs.Trying.{can_show, in_view}
use Rattle.lens_trials.proofs.trials.is_in_view.Goals as goal

pub get-requires : goal.get-requires
get-requires g c = can_show c.requires.fits _ c.requires.tree

pub returns : goal.returns
returns g c = c.member.ensures.1 (in_view c.requires.fits _ _ c.requires.tree c.in_ok-shown.ensures)
