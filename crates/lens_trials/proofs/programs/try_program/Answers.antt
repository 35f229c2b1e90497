use Rattle.lens_trials.proofs.Trying.{fits_trees}
use Rattle.lens_trials.proofs.programs.try_program.Goals as goal

pub try_typed-requires : goal.try_typed-requires
try_typed-requires g c = fits_trees c.in-Ok.typed c.in-Ok.ensures.typed
