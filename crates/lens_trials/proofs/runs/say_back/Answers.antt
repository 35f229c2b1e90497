use Rattle.std.proofs.Common.{rules}
use Rattle.lens_trials.proofs.Trying.{can_show}
use Rattle.lens_trials.proofs.runs.say_back.Goals as goal

pub get-requires : goal.get-requires
get-requires g c = can_show c.requires _ (c.member.ensures.0 (search rules))
