use Rattle.hm_replica.specs.Replicas.{replica_value}
use Rattle.hm_run_sync.specs.Reads.{before_with, replicas_of}
use Rattle.hm_run_sync.proofs.Making.{made_of, archive_bound}
use Rattle.hm_run_sync.proofs.make.make_both.Goals as goal

pub reconcile-requires-clause-no_twins : goal.reconcile-requires-clause-no_twins
reconcile-requires-clause-no_twins g c = c.requires.no_twins

pub reconcile-requires-clause-members : goal.reconcile-requires-clause-members
reconcile-requires-clause-members g c = record { left = c.requires.member_left; right = c.requires.member_right }

pub close-requires-clause-left : goal.close-requires-clause-left
close-requires-clause-left g c = record {
  is_side = c.requires.serves_left.is_side;
  over = (replica_value c.args.replicas.left, record { base = c.in_ok-outcome.ensures.left; on_side = c.requires.left });
  member = c.requires.serves_left.members.into _ c.in_ok-outcome.ensures.outcome.outcome.safe.members.left;
}

pub close-requires-clause-right : goal.close-requires-clause-right
close-requires-clause-right g c = record {
  is_side = c.requires.serves_right.is_side;
  over = (replica_value c.args.replicas.right, record { base = c.in_ok-outcome.ensures.right; on_side = c.requires.right });
  member = c.requires.serves_right.members.into _ c.in_ok-outcome.ensures.outcome.outcome.safe.members.right;
}

pub close-requires-clause-bound : goal.close-requires-clause-bound
close-requires-clause-bound g c =
    archive_bound c.args.schema.now c.args.archive c.args.replicas.left.view c.args.replicas.right.view
    c.in_ok-outcome.outcome c.deeper-bound.result c.in_ok-outcome.ensures.outcome c.deeper-bound.ensures.left c.deeper-bound.ensures.right

pub returns : goal.returns
returns g c =
    made_of _ (before_with c.args.schema.now c.args.sides.now c.args.archive c.args.replicas) c.in_ok-outcome.outcome c.in_ok-outcome.ensures.outcome c.close.result
    (c.close.ensures.closes (replicas_of c.args.replicas) (record {
      left = record { base = c.in_ok-outcome.ensures.left; on_side = c.requires.left };
      right = record { base = c.in_ok-outcome.ensures.right; on_side = c.requires.right };
    })) c.close.ensures.sums
