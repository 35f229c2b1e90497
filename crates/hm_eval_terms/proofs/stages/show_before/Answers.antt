use Rattle.std.proofs.Common.{ap, option_copied}
use Rattle.hm_eval_terms.proofs.StageSteps.{before_shown, before_shows}
use Rattle.hm_eval_terms.proofs.stages.show_before.Goals as goal

pub show-requires-clause-shown : goal.show-requires-clause-shown
show-requires-clause-shown g c = before_shown _ _ _ _ _ (ap option_copied c.in-Some.is) c.in_ok-copy-in-Some.ensures c.requires.shown

pub returns-in_ok-show-in-Some : goal.returns-in_ok-show-in-Some
returns-in_ok-show-in-Some g c = before_shows _ _ _ _ _ _ (ap option_copied c.in-Some.is) c.in_ok-copy-in-Some.ensures c.in_ok-show-in-Some.ensures
