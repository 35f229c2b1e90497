use Rattle.std.proofs.Common.{subst}
use Rattle.hm_tree.specs.States.{state}
use Rattle.hm_outcome.specs.Trios.{Trio, given, views}
use Rattle.hm_outcome.specs.Outcomes.{IsOutcome}
use Rattle.hm_outcome.proofs.Apart.{marks_differ}
use Rattle.hm_outcome.proofs.Best.{outcome_maximal, outcome_only}
use Rattle.hm_report.specs.Conflicts.{AreConflicts}
use Rattle.hm_report.proofs.Existence.{one_outcome_with}
use Rattle.hm_report.proofs.Explained.{explained}
use Rattle.hm_report.proofs.Once.{once_with}
use Rattle.hm_reconcile.specs.Sides.{outcome_of}
use Rattle.hm_reconcile.proofs.Alike.{held_contested, held_conflicts}
use Rattle.hm_reconcile.proofs.reconcile_owned.Goals as goal

pub conflicts_of-requires : goal.conflicts_of-requires
conflicts_of-requires c =
    held_contested c.args.schema.now c.args.schema.now.root (given c.args.archive c.args.left c.args.right) (outcome_of c.in_ok-made.made)
    c.in_ok-made.made.held
    (subst (λ i. IsOutcome c.args.schema.now i (given c.args.archive c.args.left c.args.right) (outcome_of c.in_ok-made.made))
    c.root.ensures.root c.in_ok-made.ensures.outcome) c.in_ok-made.ensures.held

pub returns-clause-reconciled : goal.returns-clause-reconciled
returns-clause-reconciled c = record {
  outcome = outcome;
  best = outcome_maximal c.args.schema.now c.args.schema.now.root before after outcome;
  only = outcome_only c.args.schema.now c.args.schema.now.root before after outcome;
  conflicts = remain;
  once = λ other conflicts with. once_with c.args.schema.now c.args.schema.now.root before other after conflicts
      c.in_ok-conflicts.conflicts.items with (record { outcome = outcome; remain = remain });
  explained = explained c.args.schema.now c.args.schema.now.root before after c.in_ok-conflicts.conflicts.items outcome remain;
  apart = marks_differ c.args.schema.now c.args.schema.now.root before after c.requires.members outcome;
}
  where
    before : Trio
    before = given c.args.archive c.args.left c.args.right

    after : Trio
    after = outcome_of c.in_ok-made.made

    outcome : IsOutcome c.args.schema.now c.args.schema.now.root before after
    outcome = subst (λ i. IsOutcome c.args.schema.now i before after) c.root.ensures.root c.in_ok-made.ensures.outcome

    remain : AreConflicts c.args.schema.now c.args.schema.now.root (views before) (state c.in_ok-made.made.archive) c.in_ok-conflicts.conflicts.items
    remain = held_conflicts c.args.schema.now c.args.schema.now.root before after c.in_ok-made.made.held outcome c.in_ok-made.ensures.held
        c.in_ok-conflicts.conflicts.items c.in_ok-conflicts.ensures

-- ---- there is one outcome, whether memory suffices or not

pub returns-in_err-made-clause-one_outcome : goal.returns-in_err-made-clause-one_outcome
returns-in_err-made-clause-one_outcome c = one_outcome_with _ c.requires.no_twins _ _ _ _ c.requires.members

pub returns-in_err-conflicts-clause-one_outcome : goal.returns-in_err-conflicts-clause-one_outcome
returns-in_err-conflicts-clause-one_outcome c = one_outcome_with _ c.requires.no_twins _ _ _ _ c.requires.members

pub returns-clause-one_outcome : goal.returns-clause-one_outcome
returns-clause-one_outcome c = one_outcome_with _ c.requires.no_twins _ _ _ _ c.requires.members
