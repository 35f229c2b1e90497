use Rattle.std.proofs.Common.{sym, subst}
use Rattle.hm_schema.specs.Membership.{IsMemberTree}
use Rattle.hm_outcome.specs.Trios.{Trio, given}
use Rattle.hm_reconcile.specs.Reconciled.{IsReconciled}
use Rattle.hm_run_sync.proofs.make.reconcile.Goals as goal

pub reconcile_owned-requires-clause-members : goal.reconcile_owned-requires-clause-members
reconcile_owned-requires-clause-members c = record {
  left = subst (IsMemberTree c.args.schema.now) (sym c.in_ok-left_view.ensures.view) c.requires.members.left;
  right = subst (IsMemberTree c.args.schema.now) (sym c.in_ok-right_view.ensures.view) c.requires.members.right;
}

pub returns-clause-outcome : goal.returns-clause-outcome
returns-clause-outcome c = subst (λ (t : Trio). IsReconciled c.args.schema.now t c.in_ok-outcome.outcome)
    (λ i. given c.args.archive (c.in_ok-left_view.ensures.view i) (c.in_ok-right_view.ensures.view i)) c.in_ok-outcome.ensures.reconciled
