-- Whether a path is contested, and what shows why, depends only on what stands at the path and below it.
use Rattle.std.proofs.Common.{◌≡◌, ◌↔◌, inl, inr, List, [], ◌∷◌, ◌++◌, append-nil, get_or, sym, ap, subst, subst₂, ◌∙◌}
use Rattle.std.proofs.lemmas.List.{get_or_default}
use Rattle.hm_tree.specs.Archives.{Archive}
use Rattle.hm_tree.specs.States.{Path, state, View, down}
use Rattle.hm_tree.proofs.Paths.{state_at}
use Rattle.hm_tree.proofs.PathLaws.{first_as}
use Rattle.hm_safety.specs.Views.{Views, Agree}
use Rattle.hm_safety.specs.Changes.{IsLost}
use Rattle.hm_safety.specs.Safety.{IsTopmostMark}
use Rattle.hm_schema.specs.declared.node.NodeId.{NodeId}
use Rattle.hm_schema.specs.Values.{Names, SchemaValue}
use Rattle.hm_outcome.specs.Trios.{Trio, views, Differ}
use Rattle.hm_outcome.specs.Carried.{AreCarried}
use Rattle.hm_outcome.specs.Contested.{AreRefused, IsContested, earlier, lost, refused}
use Rattle.hm_outcome.specs.Outcomes.{IsOutcome}
use Rattle.hm_outcome.proofs.Marks.{state_reaches}
use Rattle.hm_outcome.proofs.Settled.{chained}
use Rattle.hm_report.specs.Conflicts.{AreConflicts}
use Rattle.hm_report.specs.declared.conflict.Conflict.{Conflict}
use Rattle.hm_report.specs.declared.conflict.Why.{Why}
use Rattle.hm_report.specs.Reasons.{IsNews, IsFirstNews, LosesFirst, ShowsWhy}
use Rattle.hm_report.specs.Reasons as reason
use Rattle.hm_report.proofs.Explained.{listed_path}
use Rattle.hm_reconcile.specs.Alike.{AreAlikeFrom}
use Rattle.hm_reconcile.specs.Holding.{Holds}
use Rattle.hm_reconcile.specs.Showing.{AreMarksContested, ShowConflicts}
use Rattle.hm_reconcile.proofs.Shown.{carried_down, carried_up}

-- ---- views that are alike

pub alike_back : {p : Path} {v w : Views} → AreAlikeFrom p v w → AreAlikeFrom p w v
alike_back alike = record { archive = λ r. sym (alike.archive r); left = λ r. sym (alike.left r); right = λ r. sym (alike.right r) }

-- the two sides change places
abbrev pub turned : Views → Views
turned v = record { archive = v.archive; left = v.right; right = v.left }

alike_turned : {p : Path} {v w : Views} → AreAlikeFrom p v w → AreAlikeFrom p (turned v) (turned w)
alike_turned alike = record { archive = alike.archive; left = alike.right; right = alike.left }

-- what is seen from a path on
abbrev from : Path → Views → Views
from p v = record { archive = down p v.archive; left = down p v.left; right = down p v.right }

-- views that are the same from a path on are the same at it
at_itself : (p : Path) (a b : View) → ((r : Path) → a (p ++ r) ≡ b (p ++ r)) → a p ≡ b p
at_itself p a b same = ap a (sym (append-nil p)) ∙ same [] ∙ ap b (append-nil p)

module _ (p : Path) (v w : Views) (alike : AreAlikeFrom p v w) where
  archive_here : v.archive p ≡ w.archive p
  archive_here = at_itself p v.archive w.archive alike.archive

  left_here : v.left p ≡ w.left p
  left_here = at_itself p v.left w.left alike.left

  right_here : v.right p ≡ w.right p
  right_here = at_itself p v.right w.right alike.right

  same_from : from p v ≡ from p w
  same_from = λ j. record { archive = λ r. alike.archive r j; left = λ r. alike.left r j; right = λ r. alike.right r j }

  -- ---- of the left side: what the right side deleted while the left one has news, and the names that it is to have

  lost_left : IsLost v.archive v.left v.right p → IsLost w.archive w.left w.right p
  lost_left l = record {
    has = sym left_here ∙ l.has;
    lacks = sym right_here ∙ l.lacks;
    known = λ missing. l.known (archive_here ∙ missing);
    news = (l.news.0, sym (alike.left l.news.0) ∙ l.news.1, λ present. l.news.2 (alike.archive l.news.0 ∙ present));
  }

  names_left : (names : Names) → AreCarried v.archive v.left v.right p names → AreCarried w.archive w.left w.right p names
  names_left names are =
      carried_up p w.archive w.left w.right names
      (subst (λ (z : Views). AreCarried z.archive z.left z.right [] names) same_from
      (λ k. chained (are k) (carried_down p v.archive v.left v.right (k ∷ []))))

  news_left : (r : Path) → IsNews v.archive v.left (p ++ r) ↔ IsNews w.archive w.left (p ++ r)
  news_left r = (
    λ n. record { has = sym (alike.left r) ∙ n.has; news = λ present. n.news (alike.archive r ∙ present) },
    λ n. record { has = alike.left r ∙ n.has; news = λ present. n.news (sym (alike.archive r) ∙ present) },
  )

  first_left : (q : Path) → IsFirstNews v.archive v.left p q → IsFirstNews w.archive w.left p q
  first_left q f = record {
    below = f.below;
    is = f.is;
    first = first_as (λ r. IsNews v.archive v.left (p ++ r)) (λ r. IsNews w.archive w.left (p ++ r)) f.below news_left f.first;
  }

  loses_left : (q : Path) → LosesFirst v.archive v.left v.right p q → LosesFirst w.archive w.left w.right p q
  loses_left q l = record { lost = lost_left l.lost; first = first_left q l.first }

  differ : Differ v p → Differ w p
  differ d = (d.0, λ agree. d.1 (subst₂ Agree (sym (alike.left d.0)) (sym (alike.right d.0)) agree))

-- ---- of both sides

module _ (s : SchemaValue) (i : NodeId) (p : Path) (v w : Views) (alike : AreAlikeFrom p v w) where
  lost_right : IsLost v.archive v.right v.left p → IsLost w.archive w.right w.left p
  lost_right = lost_left p (turned v) (turned w) (alike_turned alike)

  loses_right : (q : Path) → LosesFirst v.archive v.right v.left p q → LosesFirst w.archive w.right w.left p q
  loses_right = loses_left p (turned v) (turned w) (alike_turned alike)

  refused_alike : (left right : Names) → AreRefused s i v p left right → AreRefused s i w p left right
  refused_alike left right r = record {
    has_left = sym (left_here p v w alike) ∙ r.has_left;
    has_right = sym (right_here p v w alike) ∙ r.has_right;
    unmarked = λ marked. r.unmarked (archive_here p v w alike ∙ marked);
    are_left = names_left p v w alike left r.are_left;
    are_right = names_left p (turned v) (turned w) (alike_turned alike) right r.are_right;
    node = r.node;
    is = r.is;
    refused = r.refused;
  }

  -- what is contested is so in views that are alike
  pub contested_alike : IsContested s i v p → IsContested s i w p
  contested_alike (earlier marked d) = earlier (sym (archive_here p v w alike) ∙ marked) (differ p v w alike d)
  contested_alike (lost present (inl l)) = lost (sym (archive_here p v w alike) ∙ present) (inl (lost_left p v w alike l))
  contested_alike (lost present (inr l)) = lost (sym (archive_here p v w alike) ∙ present) (inr (lost_right l))
  contested_alike (refused {left = left} {right = right} r) = refused (refused_alike left right r)

  -- and what shows why does
  pub shows_alike : (why : Why) → ShowsWhy s i v p why → ShowsWhy s i w p why
  shows_alike _ (reason.earlier marked d) = reason.earlier (sym (archive_here p v w alike) ∙ marked) (differ p v w alike d)
  shows_alike _ (reason.lost {q = q} present (inl l)) = reason.lost (sym (archive_here p v w alike) ∙ present) (inl (loses_left p v w alike q l))
  shows_alike _ (reason.lost {q = q} present (inr l)) = reason.lost (sym (archive_here p v w alike) ∙ present) (inr (loses_right q l))
  shows_alike _ (reason.refused {left = left} {right = right} r) = reason.refused (refused_alike left right r)

-- ---- what is held where the archive of an outcome is marked

module _ (s : SchemaValue) (i : NodeId) (before after : Trio) (held : Archive) (outcome : IsOutcome s i before after)
    (holds : Holds before.archive after.archive held) where
  -- the sides of the outcome, and what is held
  abbrev pub seen : Views
  seen = views (record { archive = held; left = after.left; right = after.right })

  -- from each topmost mark on it is as it was before: the sides stay wherever the archive is marked
  alike_at : (p : Path) → IsTopmostMark (state after.archive) p → AreAlikeFrom p (views before) seen
  alike_at p mark = record {
    archive = λ r. state_at before.archive p r ∙ ap (λ o. state o r) (sym (holds p mark)) ∙ sym (state_at held p r);
    left = λ r. sym (outcome.safe.safe.stop_leaves_left (p ++ r) (state_reaches after.archive p r mark.marked));
    right = λ r. sym (outcome.safe.safe.stop_leaves_right (p ++ r) (state_reaches after.archive p r mark.marked));
  }

  contested_seen : (p : Path) → IsTopmostMark (state after.archive) p → IsContested s i seen p
  contested_seen p mark = contested_alike s i p (views before) seen (alike_at p mark) ((outcome.marks p).0 mark).contested

  -- the topmost marks stand where it is contested
  pub held_contested : AreMarksContested seen (state after.archive)
  held_contested p mark = record { schema = s; node = i; contested = contested_seen p mark }

  -- the conflicts there are those of the outcome
  pub held_conflicts : (conflicts : List Conflict) → ShowConflicts seen (state after.archive) conflicts
      → AreConflicts s i (views before) (state after.archive) conflicts
  held_conflicts conflicts shown = record {
    at_marks = shown.at_marks;
    each = λ k d lt.
        let c : Conflict = get_or conflicts k d in
        let mark = (shown.at_marks.each c.path).0 (listed_path conflicts c (k, lt, get_or_default conflicts k c d lt)) in
        shows_alike s i c.path seen (views before) (alike_back (alike_at c.path mark)) c.why (shown.each k d lt s i (contested_seen c.path mark));
  }
