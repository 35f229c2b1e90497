use Rattle.hm_outcome.specs.Trios.{given}
use Rattle.hm_certify.specs.Standing.{trio_of}
use Rattle.hm_certify.proofs.Showing.{shows_earlier, shows_lost, shows_names}
use Rattle.hm_certify.proofs.reasons.shows_why.Goals as goal

pub returns-in-Earlier : goal.returns-in-Earlier
returns-in-Earlier c =
    shows_earlier c.args.schema.now c.args.schema.now.root (given c.args.archive.now c.args.left.now c.args.right.now) c.args.conflict.now.path
    _ c.args.conflict.now.why
    c.in-Earlier.is (trio_of c.standing_at.result) c.standing_at.ensures c.is_earlier.ensures

pub returns-in-Lost : goal.returns-in-Lost
returns-in-Lost c =
    shows_lost c.args.schema.now c.args.schema.now.root (given c.args.archive.now c.args.left.now c.args.right.now) c.args.conflict.now.path _
    c.args.conflict.now.why
    c.in-Lost.kept c.in-Lost.is (trio_of c.standing_at-in-Lost.result) c.standing_at-in-Lost.ensures c.is_lost_behind.ensures

pub returns-in-Names : goal.returns-in-Names
returns-in-Names c =
    shows_names c.args.schema.now c.args.schema.now.root (given c.args.archive.now c.args.left.now c.args.right.now) c.args.conflict.now.path _
    c.args.conflict.now.why
    _ _ c.in-Names.is c.are_refused.ensures
