-- Where a result is contested, its two sides still differ.
use Rattle.std.proofs.Common.{◌≡◌, inl, inr, ◌↔◌, [], ◌∷◌, ◌++◌, append-nil, Option, Some, None, refl, sym, ap, subst₂, ◌∙◌}
use Rattle.hm_tree.specs.Nodes.{Tree}
use Rattle.hm_tree.specs.States.{Path, state, at_path, View, Has, Lacks}
use Rattle.hm_tree.proofs.Paths.{state_at, state_here}
use Rattle.hm_safety.specs.Views.{Agree}
use Rattle.hm_safety.specs.Safety.{IsTopmostMark}
use Rattle.hm_schema.specs.declared.node.NodeId.{NodeId}
use Rattle.hm_schema.specs.Values.{Names, SchemaValue}
use Rattle.hm_outcome.specs.Trios.{Trio, views, Differ, AreMembers}
use Rattle.hm_outcome.specs.Carried.{IsCarried, on_both, clashing, kept, brought}
use Rattle.hm_outcome.specs.Contested.{AreRefused, IsContested, earlier, lost, refused}
use Rattle.hm_outcome.specs.Outcomes.{IsOutcome}
use Rattle.hm_outcome.proofs.Marks.{agree_same, has_and_lacks}
use Rattle.hm_outcome.proofs.Settled.{chained, permits_own}
use Rattle.hm_outcome.proofs.Search.{same_or_differ}
use Rattle.hm_outcome.proofs.Forced.{contested_stays}

-- where both sides have the same, a side is to have what it has
pub carried_same : (archive mine other : View) (q : Path) → mine q ≡ other q → IsCarried archive mine other q ↔ Has mine q
carried_same archive mine other q same = (to, λ has. on_both has (sym same ∙ has))
  where
    to : IsCarried archive mine other q → Has mine q
    to (on_both has has_too) = has
    to (clashing l) = l.has
    to (kept has lacks alone changed) = has
    to (brought lacks has_too alone changed) = absurd (has_and_lacks (same ∙ has_too) lacks)

differ_here : (a b : Option Tree) (p : Path) → Has (state a) p → Lacks (state b) p → ¬ (Agree (state a (p ++ [])) (state b (p ++ [])))
differ_here a b p has lacks agree = has_and_lacks (sym (agree_same agree) ∙ ap (state a) (append-nil p) ∙ has) (ap (state b) (append-nil p) ∙ lacks)

module _ (s : SchemaValue) (i : NodeId) (before : Trio) (members : AreMembers s i (views before)) (p : Path) where
  -- names that can't stand together: if the two sides were alike there, each would have what it is to have
  refused_differ : (left right : Names) → AreRefused s i (views before) p left right → Differ (views before) p
  refused_differ left right x = go (at_path before.left p) (at_path before.right p) refl refl
    where
      alike : ((r : Path) → state before.left (p ++ r) ≡ state before.right (p ++ r)) → ⊥
      alike same = elim x.refused [
        | inl n ↦ n (permits_own s i (state before.left) p x.node left members.left x.has_left x.is
            (λ k. chained (x.are_left k) (carried_same (state before.archive) (state before.left) (state before.right) (p ++ k ∷ [])
            (same (k ∷ [])))))
        | inr n ↦ n (permits_own s i (state before.right) p x.node right members.right x.has_right x.is
            (λ k. chained (x.are_right k) (carried_same (state before.archive) (state before.right) (state before.left) (p ++ k ∷ [])
            (sym (same (k ∷ []))))))
      ]

      gone : (a : Option Tree) → Has (state a) p → at_path a p ≡ None → ⊥
      gone a has none = has_and_lacks has (state_here a p ∙ ap (λ t. state t []) none)

      go : (a b : Option Tree) → at_path before.left p ≡ a → at_path before.right p ≡ b → Differ (views before) p
      go None b here there = absurd (gone before.left x.has_left here)
      go (Some t) None here there = absurd (gone before.right x.has_right there)
      go (Some t) (Some u) here there = elim (same_or_differ t u) [
        | inl same ↦ absurd (alike (λ r. state_at before.left p r ∙ ap (λ z. state z r) (here ∙ ap Some same ∙ sym there)
            ∙ sym (state_at before.right p r)))
        | inr differ ↦ (
          differ.0,
          λ agree. differ.1 (subst₂ Agree (state_at before.left p differ.0 ∙ ap (λ z. state z differ.0) here)
              (state_at before.right p differ.0 ∙ ap (λ z. state z differ.0) there) agree),
        )
      ]

  pub contested_differ : IsContested s i (views before) p → Differ (views before) p
  contested_differ (earlier m differ) = differ
  contested_differ (lost present (inl l)) = ([], differ_here before.left before.right p l.has l.lacks)
  contested_differ (lost present (inr l)) = (
    [],
    λ agree. has_and_lacks (agree_same agree ∙ ap (state before.right) (append-nil p) ∙ l.has)
        (ap (state before.left) (append-nil p) ∙ l.lacks),
  )
  contested_differ (refused {left} {right} x) = refused_differ left right x

-- at a topmost mark of an outcome its two sides differ
pub marks_differ : (s : SchemaValue) (i : NodeId) (before after : Trio) → AreMembers s i (views before) → IsOutcome s i before after
    → (p : Path) → IsTopmostMark (state after.archive) p → Differ (views after) p
marks_differ s i before after members outcome p mark =
    let contested = ((outcome.marks p).0 mark).contested in
    let differ = contested_differ s i before members p contested in
    let stay = contested_stays s i before after outcome.safe.safe outcome.safe.members p differ.0 contested in
    (differ.0, λ agree. differ.1 (subst₂ Agree stay.0 stay.1 agree))
