-- Whether a node permits the names that its two sides are to have.
use Rattle.std.proofs.Common.{◌≡◌, ◌≢◌, ◌⊎◌, inl, inr, ◌<◌, IsTrue, [], ◌∷◌, length, Some, sym, subst, ◌∙◌}
use Rattle.std.specs.FinSet.{contains}
use Rattle.hm_tree.specs.declared.archive.State.TheVariants.{Marked}
use Rattle.hm_tree.specs.Names.{Name}
use Rattle.hm_tree.specs.Nodes.{Tree}
use Rattle.hm_tree.specs.Archives.{Archive}
use Rattle.hm_tree.specs.States.{state, View, Has}
use Rattle.hm_tree.proofs.States.{state_root}
use Rattle.hm_schema.specs.declared.node.NodeId.{NodeId}
use Rattle.hm_schema.specs.Values.{Names, SchemaValue}
use Rattle.hm_schema.specs.Permitted.{PermitsAt, names_of}
use Rattle.hm_schema.specs.Membership.{IsMember}
use Rattle.hm_schema.proofs.Members.{has_names, member_root, permits_root}
use Rattle.hm_outcome.specs.Trios.{given, views, AreMembers}
use Rattle.hm_outcome.specs.Carried.{AreCarried}
use Rattle.hm_outcome.specs.Contested.{IsContested, refused}
use Rattle.hm_outcome.proofs.Apart.{carried_same}
use Rattle.hm_outcome.proofs.Marks.{has_or_lacks, has_and_lacks}
use Rattle.hm_outcome.proofs.Settled.{chained, one_set}
use Rattle.hm_reconcile.specs.Naming.{ArePermitted}
use Rattle.hm_reconcile.proofs.Nodes.{node_in_range}

-- ---- both sides have the same names

module _ (a b : Tree) (same : names_of a ≡ names_of b) where
  has_too : (k : Name) → Has (state (Some a)) (k ∷ []) → Has (state (Some b)) (k ∷ [])
  has_too k has = (has_names b k).0 (subst (λ names. IsTrue (contains names k)) same ((has_names a k).1 has))

-- what stands under a name in two trees with the same names is there in both or missing in both
same_states : (a b : Tree) → names_of a ≡ names_of b → (k : Name) → state (Some a) (k ∷ []) ≡ state (Some b) (k ∷ [])
same_states a b same k = elim (has_or_lacks (Some a) (k ∷ [])) [
  | inl has ↦ has ∙ sym (has_too a b same k has)
  | inr lacks ↦ elim (has_or_lacks (Some b) (k ∷ [])) [
    | inl has ↦ absurd (has_and_lacks (has_too b a (sym same) k has) lacks)
    | inr lacks_too ↦ lacks ∙ sym lacks_too
  ]
]

-- each side is to have its own names, which the node of a member permits
own_permitted : (s : SchemaValue) (i : NodeId) (archive : View) (a b : Tree) → names_of a ≡ names_of b → IsMember s i (state (Some a))
    → (names : Names) → AreCarried archive (state (Some a)) (state (Some b)) [] names → PermitsAt s i names
own_permitted s i archive a b same member names are =
    subst (PermitsAt s i)
    (one_set (names_of a) names (has_names a)
    (λ k. chained (are k) (carried_same archive (state (Some a)) (state (Some b)) (k ∷ []) (same_states a b same k))))
    (permits_root s i a (member_root s i a member))

pub same_names_permitted : (s : SchemaValue) (i : NodeId) (o : Archive) (a b : Tree) → AreMembers s i (views (given o a b))
    → names_of a ≡ names_of b → ArePermitted s i (views (given o a b))
same_names_permitted s i o a b members same = record {
  left = own_permitted s i (state o) a b same members.left;
  right = own_permitted s i (state o) b a (sym same) members.right;
}

-- ---- the sets of names that the two sides are to have

module _ (s : SchemaValue) (i : NodeId) (o : Archive) (a b : Tree) (left right : Names)
    (are_left : AreCarried (state o) (state (Some a)) (state (Some b)) [] left)
    (are_right : AreCarried (state o) (state (Some b)) (state (Some a)) [] right) where
  pub sets_permitted : PermitsAt s i left → PermitsAt s i right → ArePermitted s i (views (given o a b))
  sets_permitted permits_left permits_right = record {
    left = λ names are. subst (PermitsAt s i) (one_set left names are_left are) permits_left;
    right = λ names are. subst (PermitsAt s i) (one_set right names are_right are) permits_right;
  }

  pub sets_refused : i.place < length s.nodes → state o [] ≢ Marked → ¬ (PermitsAt s i left) ⊎ ¬ (PermitsAt s i right)
      → IsContested s i (views (given o a b)) []
  sets_refused in_range unmarked not_permitted =
      let node = node_in_range s i in_range in
      refused {left = left} {right = right} (record {
        has_left = state_root a;
        has_right = state_root b;
        unmarked = unmarked;
        are_left = are_left;
        are_right = are_right;
        node = node.0;
        is = node.1;
        refused = elim not_permitted [
          | inl refuses ↦ inl (λ p. refuses (record { node = node.0; is = node.1; permitted = p }))
          | inr refuses ↦ inr (λ p. refuses (record { node = node.0; is = node.1; permitted = p }))
        ];
      })
