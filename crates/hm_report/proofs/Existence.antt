-- There is an outcome with its conflicts: at each topmost mark something shows why.
use Rattle.std.proofs.Common.{◌≡◌, inl, inr, suc, List, [], ◌∷◌, map, All, refl, sym, ap, subst, arith}
use Rattle.std.proofs.lemmas.List.Elements.{All-cons}
use Rattle.std.specs.List.{Contains}
use Rattle.hm_tree.specs.Nodes.{Tree}
use Rattle.hm_tree.specs.Archives.{Archive}
use Rattle.hm_tree.specs.States.{Path, state}
use Rattle.hm_safety.specs.Views.{Views}
use Rattle.hm_schema.specs.declared.node.NodeId.{NodeId}
use Rattle.hm_schema.specs.Values.{SchemaValue}
use Rattle.hm_schema.specs.Membership.{HasNoTwins}
use Rattle.hm_outcome.specs.Trios.{Trio, given, views, AreMembers}
use Rattle.hm_outcome.specs.Contested.{IsContested, earlier, lost, refused}
use Rattle.hm_outcome.specs.Outcomes.{HasOneOutcome}
use Rattle.hm_outcome.specs.TopmostList.{topmost_list}
use Rattle.hm_outcome.specs.TopmostMarks.{AreTopmostMarks}
use Rattle.hm_outcome.proofs.Existence.{one_outcome}
use Rattle.hm_outcome.proofs.TopmostLists.{topmost_listed}
use Rattle.hm_report.specs.declared.conflict.Conflict.{Conflict}
use Rattle.hm_report.specs.declared.conflict.Why.{Why}
use Rattle.hm_report.specs.declared.conflict.Why.TheVariants as why
use Rattle.hm_report.specs.Reasons.{ShowsWhy}
use Rattle.hm_report.specs.Reasons as reason
use Rattle.hm_report.specs.Conflicts.{AreConflicts, HasOneOutcomeWith}
use Rattle.hm_report.proofs.FirstNews.{first_news}
use Rattle.hm_report.proofs.Once.{conflicts_once}

record HasReason (s : SchemaValue) (i : NodeId) (v : Views) (p : Path) : Type 0 where
  reason : Why
  shows : ShowsWhy s i v p reason

-- something shows why a path is contested
shown : (s : SchemaValue) (i : NodeId) (before : Trio) (p : Path) → IsContested s i (views before) p → HasReason s i (views before) p
shown s i before p (earlier m differ) = record { reason = why.Earlier; shows = reason.earlier m differ }
shown s i before p (lost present (inl l)) =
    let first = first_news before.archive before.left p l.news in
    record { reason = why.Lost first.0; shows = reason.lost present (inl (record { lost = l; first = first.1 })) }
shown s i before p (lost present (inr l)) =
    let first = first_news before.archive before.right p l.news in
    record { reason = why.Lost first.0; shows = reason.lost present (inr (record { lost = l; first = first.1 })) }
shown s i before p (refused {left} {right} r) = record { reason = why.Names left right; shows = reason.refused r }

-- ---- one conflict for each path

module _ (s : SchemaValue) (i : NodeId) (v : Views) where
  record AreShown (paths : List Path) : Type 0 where
    conflicts : List Conflict
    at_paths : map (λ (c : Conflict). c.path) conflicts ≡ paths
    each : All (λ (c : Conflict). ShowsWhy s i v c.path c.why) conflicts

  all_shown : (paths : List Path) → ((p : Path) → Contains paths p → HasReason s i v p) → AreShown paths
  all_shown [] reasons = record { conflicts = []; at_paths = refl; each = λ n c lt. absurd (omega arith) }
  all_shown (p ∷ paths) reasons =
      more (reasons p (0, omega arith, refl)) (all_shown paths (λ q at. reasons q (suc at.0, omega (arith, at.1), at.2)))
    where
      more : HasReason s i v p → AreShown paths → AreShown (p ∷ paths)
      more here rest = record {
        conflicts = record { path = p; why = here.reason } ∷ rest.conflicts;
        at_paths = ap (λ l. p ∷ l) rest.at_paths;
        each = All-cons (λ (c : Conflict). ShowsWhy s i v c.path c.why) (record { path = p; why = here.reason }) rest.conflicts
            here.shows rest.each;
      }

-- the outcome of two members has conflicts
conflicts_there : (s : SchemaValue) (i : NodeId) (before : Trio) (outcome : HasOneOutcome s i before) → HasOneOutcomeWith s i before
conflicts_there s i before outcome = record {
  outcome = outcome;
  conflicts = found.conflicts;
  remain = remain;
  only = λ others are. conflicts_once s i (views before) (state outcome.archive) others found.conflicts are remain;
}
  where
    marks : AreTopmostMarks (state outcome.archive) (topmost_list outcome.archive)
    marks = topmost_listed outcome.archive

    found : AreShown s i (views before) (topmost_list outcome.archive)
    found = all_shown s i (views before) (topmost_list outcome.archive)
        (λ p at. shown s i before p ((outcome.is.marks p).0 ((marks.each p).0 at)).contested)

    remain : AreConflicts s i (views before) (state outcome.archive) found.conflicts
    remain = record { at_marks = subst (AreTopmostMarks (state outcome.archive)) (sym found.at_paths) marks; each = found.each }

pub one_outcome_with : (s : SchemaValue) → HasNoTwins s → (i : NodeId) (o : Archive) (a b : Tree) → AreMembers s i (views (given o a b)) →
    HasOneOutcomeWith s i (given o a b)
one_outcome_with s no_twins i o a b members = conflicts_there s i (given o a b) (one_outcome s no_twins i o a b members)
