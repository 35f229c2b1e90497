use Rattle.lens_trials.proofs.Trying.{can_show}
use Rattle.lens_trials.proofs.trials.is_shown.Goals as goal

pub get-requires : goal.get-requires
get-requires g c = can_show c.requires.fits _ c.requires.tree
