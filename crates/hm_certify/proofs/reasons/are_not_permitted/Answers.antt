use Rattle.hm_certify.proofs.Showing.{left_not_permitted, right_decides}
use Rattle.hm_certify.proofs.reasons.are_not_permitted.Goals as goal

pub returns-then-not-permits_names : goal.returns-then-not-permits_names
returns-then-not-permits_names c =
    left_not_permitted c.args.schema.now c.args.schema.now.root c.args.path.now c.at-id.result c.at-id.ensures.node c.at-id.ensures.in_range
    c.args.left.now c.args.right.now _ c.permits_names.ensures c.if-not-permits_names.true

pub returns : goal.returns
returns c =
    right_decides c.args.schema.now c.args.schema.now.root c.args.path.now c.at-id.result c.at-id.ensures.node c.at-id.ensures.in_range
    c.args.left.now c.args.right.now _ c.permits_names.ensures _
    c.if-not-permits_names.false c.permits_names-2.ensures
