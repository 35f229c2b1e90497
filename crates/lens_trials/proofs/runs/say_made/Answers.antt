use Rattle.std.proofs.Common.{None, rules}
use Rattle.lens_trials.proofs.Trying.{can_put}
use Rattle.lens_trials.proofs.runs.say_made.Goals as goal

pub put-requires : goal.put-requires
put-requires g c = can_put c.requires _ None (c.member.ensures.0 (search rules)) tt
