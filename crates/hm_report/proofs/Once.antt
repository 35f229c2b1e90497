-- A path is in conflict for one reason, and an outcome has one list of conflicts.
use Rattle.std.proofs.Common.{◌≡◌, ◌≢◌, ◌⊎◌, inl, inr, suc, List, [], ◌∷◌, ◌++◌, map, All, refl, sym, ap, subst, ◌∙◌, arith}
use Rattle.hm_tree.specs.declared.archive.State.{State}
use Rattle.hm_tree.specs.declared.archive.State.TheVariants.{Present}
use Rattle.hm_tree.specs.States.{Path, View}
use Rattle.hm_tree.proofs.PathLaws.{first_once}
use Rattle.hm_safety.specs.Views.{Views}
use Rattle.hm_schema.specs.declared.node.NodeId.{NodeId}
use Rattle.hm_schema.specs.Values.{SchemaValue}
use Rattle.hm_outcome.specs.Trios.{Trio, views}
use Rattle.hm_outcome.proofs.Best.{outcome_once}
use Rattle.hm_outcome.proofs.Settled.{one_set}
use Rattle.hm_outcome.proofs.TopmostLists.{marks_once}
use Rattle.hm_report.specs.declared.conflict.Conflict.{Conflict}
use Rattle.hm_report.specs.declared.conflict.Why.{Why}
use Rattle.hm_report.specs.declared.conflict.Why.TheVariants as why
use Rattle.hm_report.specs.Reasons.{IsNews, IsFirstNews, LosesFirst, ShowsWhy, earlier, lost, refused}
use Rattle.hm_report.specs.Conflicts.{AreConflicts, IsOutcomeWith}

-- two states of one path
not_both : {s t u : State} → s ≡ t → s ≡ u → t ≢ u → ⊥
not_both e f apart = apart (sym e ∙ f)

news_once : (archive keeper : View) (p q r : Path) → IsFirstNews archive keeper p q → IsFirstNews archive keeper p r → q ≡ r
news_once archive keeper p q r one other =
    one.is ∙ ap (λ z. p ++ z) (first_once (λ z. IsNews archive keeper (p ++ z)) one.below other.below one.first other.first) ∙ sym other.is

lost_once : (v : Views) (p q r : Path) → LosesFirst v.archive v.left v.right p q ⊎ LosesFirst v.archive v.right v.left p q
    → LosesFirst v.archive v.left v.right p r ⊎ LosesFirst v.archive v.right v.left p r → q ≡ r
lost_once v p q r (inl one) (inl other) = news_once v.archive v.left p q r one.first other.first
lost_once v p q r (inl one) (inr other) = absurd (not_both one.lost.has other.lost.lacks (λ e. let f : ⊥ = cc in f))
lost_once v p q r (inr one) (inl other) = absurd (not_both one.lost.has other.lost.lacks (λ e. let f : ⊥ = cc in f))
lost_once v p q r (inr one) (inr other) = news_once v.archive v.right p q r one.first other.first

module _ (s : SchemaValue) (i : NodeId) (v : Views) (p : Path) where
  lacks_one : (q : Path) → v.left p ≡ Present → v.right p ≡ Present
      → LosesFirst v.archive v.left v.right p q ⊎ LosesFirst v.archive v.right v.left p q → ⊥
  lacks_one q left right (inl l) = not_both right l.lost.lacks (λ e. let f : ⊥ = cc in f)
  lacks_one q left right (inr l) = not_both left l.lost.lacks (λ e. let f : ⊥ = cc in f)

  pub reason_once : (one other : Why) → ShowsWhy s i v p one → ShowsWhy s i v p other → one ≡ other
  reason_once _ _ (earlier m d) (earlier n e) = refl
  reason_once _ _ (earlier m d) (lost there l) = absurd (not_both m there (λ e. let f : ⊥ = cc in f))
  reason_once _ _ (earlier m d) (refused h) = absurd (h.unmarked m)
  reason_once _ _ (lost there l) (earlier m d) = absurd (not_both m there (λ e. let f : ⊥ = cc in f))
  reason_once _ _ (lost {q = q} there l) (lost {q = r} here k) = ap why.Lost (lost_once v p q r l k)
  reason_once _ _ (lost {q = q} there l) (refused h) = absurd (lacks_one q h.has_left h.has_right l)
  reason_once _ _ (refused h) (earlier m d) = absurd (h.unmarked m)
  reason_once _ _ (refused h) (lost {q = q} there l) = absurd (lacks_one q h.has_left h.has_right l)
  reason_once _ _ (refused {left = a} {right = b} h) (refused {left = c} {right = d} k) =
      let left = one_set a c h.are_left k.are_left in
      let right = one_set b d h.are_right k.are_right in
      λ x. why.Names (left x) (right x)

module _ (s : SchemaValue) (i : NodeId) (v : Views) where
  abbrev Shows : Conflict → Type 0
  Shows c = ShowsWhy s i v c.path c.why

  list_once : (cs ds : List Conflict) → map (λ c. c.path) cs ≡ map (λ c. c.path) ds → All Shows cs → All Shows ds → cs ≡ ds
  list_once [] [] e f g = refl
  list_once [] (d ∷ ds) e f g = let no : ⊥ = cc in absurd no
  list_once (c ∷ cs) [] e f g = let no : ⊥ = cc in absurd no
  list_once (c ∷ cs) (d ∷ ds) e f g =
      let first : c.path ≡ d.path = cc in
      let rest : map (λ (c : Conflict). c.path) cs ≡ map (λ (c : Conflict). c.path) ds = cc in
      let reason = reason_once s i v d.path c.why d.why (subst (λ p. ShowsWhy s i v p c.why) first (f 0 c (omega arith))) (g 0 d (omega arith)) in
      λ x. record { path = first x; why = reason x } ∷ list_once cs ds rest (λ n y lt. f (suc n) y (omega (arith, lt)))
      (λ n y lt. g (suc n) y (omega (arith, lt))) x

  pub conflicts_once : (archive : View) (cs ds : List Conflict) → AreConflicts s i v archive cs → AreConflicts s i v archive ds → cs ≡ ds
  conflicts_once archive cs ds one other = list_once cs ds (marks_once archive _ _ one.at_marks other.at_marks) one.each other.each

-- there is one outcome with its conflicts
pub once_with : (s : SchemaValue) (i : NodeId) (before one other : Trio) (cs ds : List Conflict) → IsOutcomeWith s i before one cs
    → IsOutcomeWith s i before other ds → (one ≡ other) × (cs ≡ ds)
once_with s i before one other cs ds first second =
    let same = outcome_once s i before one other first.outcome second.outcome in (
      same,
      conflicts_once s i (views before) (views other).archive cs ds
          (subst (λ (t : Trio). AreConflicts s i (views before) (views t).archive cs) same first.remain) second.remain,
    )
