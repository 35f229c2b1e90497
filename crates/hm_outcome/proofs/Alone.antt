-- What becomes of a subtree that one side alone has.
use Rattle.std.proofs.Common.{◌≡◌, ◌≢◌, false, [], Some, None, refl, inl, inr}
use Rattle.hm_tree.specs.declared.archive.State.{State}
use Rattle.hm_tree.specs.declared.archive.State.TheVariants.{Missing, Present, Marked}
use Rattle.hm_tree.specs.Nodes.{Tree, marked}
use Rattle.hm_tree.specs.Archives.{Archive}
use Rattle.hm_tree.specs.States.{state, IsWithin}
use Rattle.hm_tree.proofs.Extent.{stands}
use Rattle.hm_tree.proofs.States.{state_root}
use Rattle.hm_safety.specs.Changes.{IsLost}
use Rattle.hm_schema.specs.declared.node.NodeId.{NodeId}
use Rattle.hm_schema.specs.Values.{SchemaValue}
use Rattle.hm_schema.specs.Membership.{IsMember}
use Rattle.hm_outcome.specs.Trios.{views}
use Rattle.hm_outcome.specs.Contested.{IsContested, earlier, lost}
use Rattle.hm_outcome.specs.Outcomes.{IsOutcome}
use Rattle.hm_outcome.proofs.Marks.{has_and_lacks}
use Rattle.hm_outcome.proofs.Settled.{right_unchanged, stopped}
use Rattle.hm_outcome.proofs.Search.{within_or_news, agree_has}
use Rattle.hm_outcome.specs.Sides.{on_left, recorded_on_both}

missing_none : (o : Archive) → state o [] ≡ Missing → o ≡ None
missing_none None e = refl
missing_none (Some a) e = absurd (stands a e)

-- a missing side is a member
pub missing_member : (s : SchemaValue) (i : NodeId) → IsMember s i (state {m = false} None)
missing_member s i p h = absurd (has_and_lacks h refl)

-- what one side alone has, the archive knows and doesn't hold is lost on the other side
pub news_lost : (o : Archive) (t : Tree) → state o [] ≢ Missing → ¬ (IsWithin (Some t) o)
    → IsLost (state o) (state (Some t)) (state {m = false} None) []
news_lost o t known apart = elim (within_or_news t o) [
  | inl within ↦ absurd (apart within)
  | inr news ↦ record { has = state_root t; lacks = refl; known = known; news = news }
]

module _ (s : SchemaValue) (i : NodeId) (o : Archive) (t : Tree) where
  -- where the archive knows nothing of it, the other side takes it
  module _ (unknown : state o [] ≡ Missing) (member : IsMember s i (state (Some t))) where
    pub left_taken : IsOutcome s i (on_left o t) (recorded_on_both t)
    left_taken = rw (missing_none o unknown) (right_unchanged s i (Some t) None member)

  -- where the archive knows it, and it isn't within the archive, it is contested
  module _ (known : state o [] ≢ Missing) (apart : ¬ (IsWithin (Some t) o)) where
    lost_here : IsLost (state o) (state (Some t)) (state {m = false} None) []
    lost_here = news_lost o t known apart

    left_contested : (r : State) → state o [] ≡ r → IsContested s i (views (on_left o t)) []
    left_contested Missing e = absurd (known e)
    left_contested Present e = lost e (inl lost_here)
    left_contested Marked e = earlier e ([], λ a. has_and_lacks (agree_has a (state_root t)) refl)

    module _ (member : IsMember s i (state (Some t))) where
      pub left_stopped : IsOutcome s i (on_left o t) (on_left (Some marked) t)
      left_stopped = stopped s i (on_left o t) (left_contested (state o []) refl) (record { left = member; right = missing_member s i })
