use Rattle.hm_replica.specs.Replicas.{replica_value}
use Rattle.hm_run_sync.specs.Reads.{before_of, replicas_of}
use Rattle.hm_run_sync.proofs.Making.{made_of, archive_bound}
use Rattle.hm_run_sync.proofs.make.make_by.Goals as goal

pub close-requires-clause-left : goal.close-requires-clause-left
close-requires-clause-left g c = record {
  is_side = c.requires.opened.serves_left.is_side;
  over = (replica_value c.args.inputs.replicas.left, record { base = c.into_base.ensures; on_side = c.requires.opened.left });
  member = c.requires.opened.serves_left.members.into _ c.requires.outcome.outcome.safe.members.left;
}

pub close-requires-clause-right : goal.close-requires-clause-right
close-requires-clause-right g c = record {
  is_side = c.requires.opened.serves_right.is_side;
  over = (replica_value c.args.inputs.replicas.right, record { base = c.into_base-2.ensures; on_side = c.requires.opened.right });
  member = c.requires.opened.serves_right.members.into _ c.requires.outcome.outcome.safe.members.right;
}

pub close-requires-clause-bound : goal.close-requires-clause-bound
close-requires-clause-bound g c =
    archive_bound c.args.inputs.schema c.args.inputs.archive c.args.inputs.replicas.left.view c.args.inputs.replicas.right.view
    c.args.outcome c.deeper-bound.result c.requires.outcome c.deeper-bound.ensures.left c.deeper-bound.ensures.right

pub returns : goal.returns
returns g c =
    made_of _ (before_of c.args.inputs) c.args.outcome c.requires.outcome c.close.result
    (c.close.ensures.closes (replicas_of c.args.inputs.replicas) (record {
      left = record { base = c.into_base.ensures; on_side = c.requires.opened.left };
      right = record { base = c.into_base-2.ensures; on_side = c.requires.opened.right };
    })) c.close.ensures.sums
