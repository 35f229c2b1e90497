use Rattle.hm_certify.specs.Standing.{trio_of}
use Rattle.hm_certify.proofs.SafeTests.{others}
use Rattle.hm_certify.proofs.safe.others_go.Goals as goal

pub returns : goal.returns
returns c = others (trio_of c.args.before) c.args.archive.now c.args.left.now c.args.right.now _ (c.both_go.ensures.0 c.if-not-both_go.false)
    c.both_go-2.ensures
