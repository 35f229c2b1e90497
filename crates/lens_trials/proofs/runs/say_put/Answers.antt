use Rattle.std.proofs.Common.{rules}
use Rattle.lens_trials.proofs.Trying.{can_put}
use Rattle.lens_trials.proofs.runs.say_put.Goals as goal

pub put-requires : goal.put-requires
put-requires g c = can_put c.requires _ _ (c.member.ensures.0 (search rules)) (c.member-2.ensures.0 (search rules))
