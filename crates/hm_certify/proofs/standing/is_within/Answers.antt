use Rattle.std.proofs.Common.{ap, option_copied}
use Rattle.hm_certify.proofs.SafeTests.{not_within}
use Rattle.hm_certify.proofs.standing.is_within.Goals as goal

pub returns-in-None : goal.returns-in-None
returns-in-None c = not_within c.args.tree.now (option_copied c.args.archive) (ap option_copied c.in-None.is)
