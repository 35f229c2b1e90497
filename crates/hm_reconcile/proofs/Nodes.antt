-- The cases at a node, and what the steps of its loop need.
use Rattle.std.proofs.Common.{◌≡◌, ◌⊎◌, inl, inr, ℕ, ◌+◌, ◌*◌, ◌<◌, ◌≤◌, [], length, Option, Some, None, is_some, Result, Ok, Err, slice_get, get_or, refl, sym, ap, subst, ◌∙◌, arith}
use Rattle.std.specs.Prelude.{IfOk, IsSome}
use Rattle.std.proofs.lemmas.Option.{same_Some, slice_get_cases}
use mathlib.Core.Bool.{true≢false}
use Rattle.hm_tree.specs.declared.archive.State.TheVariants.{Marked}
use Rattle.hm_tree.specs.declared.memory.Memory.{Memory}
use Rattle.hm_tree.specs.Names.{Name}
use Rattle.hm_tree.specs.Nodes.{Tree, below, depth, marked}
use Rattle.hm_tree.specs.Archives.{Archive, under, recorded}
use Rattle.hm_tree.specs.States.{state}
use Rattle.hm_tree.proofs.Depths.{depth_below}
use Rattle.hm_schema.specs.declared.node.NodeId.{NodeId}
use Rattle.hm_schema.specs.Values.{NodeValue, SchemaValue, node_at, child_at}
use Rattle.hm_schema.specs.Membership.{IsMember}
use Rattle.hm_outcome.specs.Trios.{Trio, given, views, AreMembers}
use Rattle.hm_outcome.specs.Contested.{IsContested, earlier}
use Rattle.hm_outcome.specs.Outcomes.{IsOutcome}
use Rattle.hm_outcome.proofs.Search.{same_or_differ}
use Rattle.hm_outcome.proofs.Settled.{equal_sides, stopped}
use Rattle.hm_outcome.proofs.Downward.{child}
use Rattle.hm_reconcile.specs.declared.trees.Trees.{Trees}
use Rattle.hm_reconcile.specs.Sides.{outcome_of}
use Rattle.hm_outcome.specs.Gathering.{IsInEither}
use Rattle.hm_reconcile.proofs.Falling.{side_size}
use Rattle.hm_outcome.proofs.Gathered.{no_node, member_at}

-- ---- what is given, by what is known of it

pub comes_to : (s : SchemaValue) (i : NodeId) (before after : Trio) (r : Result Trees Memory) → IfOk r (λ o. outcome_of o ≡ after)
    → IsOutcome s i before after → IfOk r (λ o. IsOutcome s i before (outcome_of o))
comes_to s i before after (Ok o) is outcome = subst (IsOutcome s i before) (sym is) outcome
comes_to s i before after (Err e) is outcome = tt

module _ (s : SchemaValue) (i : NodeId) (o : Archive) (a b : Tree) (members : AreMembers s i (views (given o a b))) where
  pub equal_outcome : a ≡ b → IsOutcome s i (given o a b) (given (Some (recorded a)) a a)
  equal_outcome same = subst (λ z. IsOutcome s i (given o a z) (given (Some (recorded a)) a a)) same (equal_sides s i o (Some a) members.left)

  pub stopped_outcome : IsContested s i (views (given o a b)) [] → IsOutcome s i (given o a b) (given (Some marked) a b)
  stopped_outcome contested = stopped s i (given o a b) contested members

  pub marked_contested : state o [] ≡ Marked → (a ≡ b → ⊥) → IsContested s i (views (given o a b)) []
  marked_contested mark apart = earlier mark (elim (same_or_differ a b) [ inl same ↦ absurd (apart same) | inr differ ↦ differ ])

  -- a name of either side has a node
  pub has_node : (k : Name) → IsInEither (below k a) (below k b) → IsSome (child_at s i k)
  has_node k there = go (child_at s i k) refl
    where
      go : (c : Option NodeId) → child_at s i k ≡ c → IsSome (child_at s i k)
      go (Some j) leads = ap is_some leads
      go None none = absurd (true≢false
          (sym (subst (λ (z : Option Tree × Option Tree). IsInEither z.0 z.1)
          (λ x. (no_node s i a members.left k none x, no_node s i b members.right k none x)) there)))

-- both sides are members below a name
pub members_at : (s : SchemaValue) (i j : NodeId) (o c : Archive) (a b : Tree) (k : Name) (one two : Option Tree)
    → AreMembers s i (views (given o a b)) → child_at s i k ≡ Some j → one ≡ below k a → two ≡ below k b
    → AreMembers s j (views (record { archive = c; left = one; right = two }))
members_at s i j o c a b k one two members leads left right = record {
  left = subst (λ z. IsMember s j (state z)) (sym left) (member_at s i j a k members.left leads);
  right = subst (λ z. IsMember s j (state z)) (sym right) (member_at s i j b k members.right leads);
}

-- ---- the loop

pub size_falls : (a : Tree) (k : Name) (one : Option Tree) (work : ℕ) → one ≡ below k a → work ≤ 3 → side_size one work < 4 * depth a + 1
size_falls a k None work is small = omega arith
size_falls a k (Some c) work is small = let less = depth_below k a c (sym is) in omega arith

pub node_in_range : (s : SchemaValue) (i : NodeId) → i.place < length s.nodes → (n : NodeValue) × (node_at s i ≡ Some n)
node_in_range s i below = go (slice_get_cases s.nodes i.place).1
  where
    go : ((x : NodeValue) × (i.place < length s.nodes) × (slice_get s.nodes i.place ≡ Some x) × (get_or s.nodes i.place x ≡ x))
        ⊎ ((length s.nodes ≤ i.place) × (slice_get s.nodes i.place ≡ None)) → (n : NodeValue) × (node_at s i ≡ Some n)
    go (inl there) = (there.0, there.2)
    go (inr past) = let l = past.0 in absurd (omega arith)

-- what was settled at the node of a name is settled under the name
pub settled_here : (s : SchemaValue) (i j : NodeId) (o c : Archive) (a b : Tree) (k : Name) (one two : Option Tree) (here : Trio)
    → child_at s i k ≡ Some j → c ≡ under k o → one ≡ below k a → two ≡ below k b
    → IsOutcome s j (record { archive = c; left = one; right = two }) here → (l : NodeId) → child_at s i k ≡ Some l
    → IsOutcome s l (child k (given o a b)) here
settled_here s i j o c a b k one two here leads at left right outcome l leads_too =
    subst (λ z. IsOutcome s z (child k (given o a b)) here) (same_Some j l (sym leads ∙ leads_too))
    (subst (λ (z : Archive × Option Tree × Option Tree). IsOutcome s j (record { archive = z.0; left = z.1; right = z.2 }) here)
    (λ x. (at x, left x, right x)) outcome)
