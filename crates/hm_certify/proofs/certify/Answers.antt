use Rattle.std.proofs.Common.{IsTrue, List, subst}
use Rattle.std.specs.List.{All}
use Rattle.hm_tree.specs.States.{state}
use Rattle.hm_outcome.specs.Trios.{given, views}
use Rattle.hm_outcome.specs.TopmostMarks.{AreTopmostMarks}
use Rattle.hm_report.specs.declared.conflict.Conflict.{Conflict}
use Rattle.hm_report.specs.Reasons.{ShowsWhy}
use Rattle.hm_report.proofs.Existence.{one_outcome_with}
use Rattle.hm_certify.specs.Certificates.{IsCertified}
use Rattle.hm_certify.proofs.ConflictPaths.{paths_of}
use Rattle.hm_certify.proofs.Certified.{certified_maximal, certified_sides}
use Rattle.hm_certify.proofs.certify.Goals as goal

-- each part was found to hold
certified : (c : goal.After-all_show_why) → IsTrue c.all_show_why.result
    → IsCertified c.args.schema.now c.args.schema.now.root (given c.args.archive.now c.args.left.now c.args.right.now)
    (given c.args.outcome.now.archive c.args.outcome.now.left c.args.outcome.now.right) c.args.outcome.now.conflicts.items
certified c shown = record {
  safe = record {
    safe = c.is_safe.ensures.0 c.if-not-is_safe.false;
    members = record { left = c.member.ensures.0 c.if-not-member.false; right = c.member-2.ensures.0 c.if-not-member-2.false };
  };
  explained = record {
    at_marks = subst (λ (cs : List Conflict). AreTopmostMarks (state c.args.outcome.now.archive) (paths_of cs)) c.deref.ensures.value
        (c.are_at_marks.ensures.0 c.if-not-are_at_marks.false);
    each = subst (All (λ (x : Conflict). ShowsWhy c.args.schema.now c.args.schema.now.root
        (views (given c.args.archive.now c.args.left.now c.args.right.now)) x.path x.why)) c.deref-2.ensures.value (c.all_show_why.ensures.0 shown);
  };
}

pub returns-clause-best : goal.returns-clause-best
returns-clause-best c shown =
    certified_maximal c.args.schema.now c.args.schema.now.root (given c.args.archive.now c.args.left.now c.args.right.now)
    (given c.args.outcome.now.archive c.args.outcome.now.left c.args.outcome.now.right)
    c.args.outcome.now.conflicts.items (certified c shown)

pub returns-clause-sides : goal.returns-clause-sides
returns-clause-sides c shown =
    certified_sides c.args.schema.now c.args.schema.now.root (given c.args.archive.now c.args.left.now c.args.right.now)
    (given c.args.outcome.now.archive c.args.outcome.now.left c.args.outcome.now.right)
    c.args.outcome.now.conflicts.items (certified c shown)

-- ---- there is one outcome, whatever is certified

pub returns-then-not-is_safe-clause-one_outcome : goal.returns-then-not-is_safe-clause-one_outcome
returns-then-not-is_safe-clause-one_outcome c = one_outcome_with _ c.requires.no_twins _ _ _ _ c.requires.members

pub returns-then-not-member-clause-one_outcome : goal.returns-then-not-member-clause-one_outcome
returns-then-not-member-clause-one_outcome c = one_outcome_with _ c.requires.no_twins _ _ _ _ c.requires.members

pub returns-then-not-member-2-clause-one_outcome : goal.returns-then-not-member-2-clause-one_outcome
returns-then-not-member-2-clause-one_outcome c = one_outcome_with _ c.requires.no_twins _ _ _ _ c.requires.members

pub returns-then-not-are_at_marks-clause-one_outcome : goal.returns-then-not-are_at_marks-clause-one_outcome
returns-then-not-are_at_marks-clause-one_outcome c = one_outcome_with _ c.requires.no_twins _ _ _ _ c.requires.members

pub returns-clause-one_outcome : goal.returns-clause-one_outcome
returns-clause-one_outcome c = one_outcome_with _ c.requires.no_twins _ _ _ _ c.requires.members
