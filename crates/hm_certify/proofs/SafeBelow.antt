-- Where the new archive isn't marked at the root, a result is safe where it is so at the root and below each name.
use Rattle.std.proofs.Common.{◌≡◌, ◌≢◌, ◌⊎◌, [], ◌∷◌, inl, inr}
use Rattle.hm_tree.specs.declared.archive.State.TheVariants.{Marked}
use Rattle.hm_tree.specs.Names.{Name}
use Rattle.hm_tree.specs.States.{Path, Has}
use Rattle.hm_safety.specs.Views.{Views}
use Rattle.hm_safety.specs.Changes.{HasChanged, Clash}
use Rattle.hm_safety.specs.Safety.{IsTopmostMark, IsSafe}
use Rattle.hm_outcome.proofs.Marks.{below_root}
use Rattle.hm_outcome.proofs.Downward.{views_below, lost_below, at_each, none_above_below}

-- safe at the root, where the new archive isn't marked
pub record IsSafeHere (v w : Views) : Type 0 where
  pub keeps_left : HasChanged v.archive v.left [] → w.left [] ≡ v.left []
  pub keeps_right : HasChanged v.archive v.right [] → w.right [] ≡ v.right []
  pub left_from_right : w.left [] ≢ v.left [] → w.left [] ≡ v.right []
  pub right_from_left : w.right [] ≢ v.right [] → w.right [] ≡ v.left []
  pub agrees : (w.archive [] ≡ w.left []) × (w.archive [] ≡ w.right [])

module _ (v w : Views) (unmarked : w.archive [] ≢ Marked) where
  clash_down : (k : Name) (p : Path) → Clash v (k ∷ p) → Clash (views_below k v) p
  clash_down k p (inl l) = inl ((lost_below k v.archive v.left v.right p).0 l)
  clash_down k p (inr l) = inr ((lost_below k v.archive v.right v.left p).0 l)

  clash_up : (k : Name) (p : Path) → Clash (views_below k v) p → Clash v (k ∷ p)
  clash_up k p (inl l) = inl ((lost_below k v.archive v.left v.right p).1 l)
  clash_up k p (inr l) = inr ((lost_below k v.archive v.right v.left p).1 l)

  mark_down : (k : Name) (p : Path) → IsTopmostMark w.archive (k ∷ p) → IsTopmostMark (views_below k w).archive p
  mark_down k p m = record { marked = m.marked; topmost = (none_above_below (λ q. w.archive q ≡ Marked) k p unmarked).0 m.topmost }

  pub safe_here : IsSafe v w → IsSafeHere v w
  safe_here h = record {
    keeps_left = h.keeps_left [];
    keeps_right = h.keeps_right [];
    left_from_right = h.left_from_right [];
    right_from_left = h.right_from_left [];
    agrees = elim (h.agrees_or_stops []) [ inl m ↦ absurd (unmarked m) | inr e ↦ e ];
  }

  pub safe_below : IsSafe v w → (k : Name) → IsSafe (views_below k v) (views_below k w)
  safe_below h k = record {
    keeps_left = λ p. h.keeps_left (k ∷ p);
    keeps_right = λ p. h.keeps_right (k ∷ p);
    left_from_right = λ p. h.left_from_right (k ∷ p);
    right_from_left = λ p. h.right_from_left (k ∷ p);
    agrees_or_stops = λ p. h.agrees_or_stops (k ∷ p);
    stop_leaves_left = λ p. h.stop_leaves_left (k ∷ p);
    stop_leaves_right = λ p. h.stop_leaves_right (k ∷ p);
    stops_at = λ p top. elim (h.stops_at (k ∷ p) (below_root w.archive k p unmarked top)) [ inl both ↦ inl both | inr c ↦ inr (clash_down k p c) ];
  }

  pub safe_whole : IsSafeHere v w → ((k : Name) → IsSafe (views_below k v) (views_below k w)) → IsSafe v w
  safe_whole here below = record {
    keeps_left = at_each _ here.keeps_left (λ k. (below k).keeps_left);
    keeps_right = at_each _ here.keeps_right (λ k. (below k).keeps_right);
    left_from_right = at_each _ here.left_from_right (λ k. (below k).left_from_right);
    right_from_left = at_each _ here.right_from_left (λ k. (below k).right_from_left);
    agrees_or_stops = at_each _ (inr here.agrees) (λ k. (below k).agrees_or_stops);
    stop_leaves_left = at_each _ (λ m. absurd (unmarked m)) (λ k. (below k).stop_leaves_left);
    stop_leaves_right = at_each _ (λ m. absurd (unmarked m)) (λ k. (below k).stop_leaves_right);
    stops_at = stops;
  }
    where
      stops : (p : Path) → IsTopmostMark w.archive p → (Has v.left p × Has v.right p) ⊎ Clash v p
      stops [] m = absurd (unmarked m.marked)
      stops (k ∷ p) m = elim ((below k).stops_at p (mark_down k p m)) [ inl both ↦ inl both | inr c ↦ inr (clash_up k p c) ]
