use Rattle.hm_certify.specs.Standing.{trio_of}
use Rattle.hm_certify.proofs.Showing.{still_differ}
use Rattle.hm_certify.proofs.reasons.is_earlier.Goals as goal

pub returns-then-is_marked : goal.returns-then-is_marked
returns-then-is_marked c = still_differ (trio_of c.args.here) _ (c.is_marked.ensures.0 c.if-is_marked.true) c.are_same.ensures
