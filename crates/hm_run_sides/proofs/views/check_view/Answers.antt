use Rattle.hm_schema.proofs.SameSchemas.{same_members}
use Rattle.hm_run_sides.proofs.views.check_view.Goals as goal

pub returns-then-branch-clause-members : goal.returns-then-branch-clause-members
returns-then-branch-clause-members c =
    same_members c.args.schema.now c.args.side.now.typed.view c.nodes.ensures.well_formed c.nodes-2.ensures.well_formed
    (c.in_ok-same.ensures.same.0 c.if-branch.true)
