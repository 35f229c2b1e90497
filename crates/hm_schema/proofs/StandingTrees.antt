-- Which trees stand at a node: those of which the names are permitted, the twins alike and the children inside; at a node of a
-- schema these are its members.
use Rattle.std.proofs.Common.{◌≡◌, Bool, true, false, cond, ◌&&◌, IsTrue, is_some, [], get_or, Option, Some, None, refl, sym, ap, ◌∙◌}
use Rattle.std.proofs.lemmas.Option.{none-some, slice_get-get_or}
use Rattle.std.proofs.lemmas.List.Elements.{All-weaker}
use Rattle.std.specs.FinSet.{contains, retain}
use Rattle.hm_tree.specs.Names.{Name}
use Rattle.hm_tree.specs.Nodes.{Tree, edges, below}
use Rattle.hm_tree.specs.Parts.{part}
use Rattle.hm_tree.specs.States.{state}
use Rattle.hm_tree.proofs.Parted.{below-part}
use Rattle.hm_tree.proofs.Sorted.{below_edge}
use Rattle.hm_schema.specs.declared.node.NodeId.{NodeId}
use Rattle.hm_schema.specs.Values.{NodeOver, NodeValue, SchemaValue, node_at, child_of}
use Rattle.hm_schema.specs.Permitted.{names_of}
use Rattle.hm_schema.specs.Membership.{IsMember, IsTwin}
use Rattle.hm_schema.proofs.NamesOf.{names_of-below, same_names, kept, found_value}
use Rattle.hm_schema.proofs.Members.{IsMemberBelow, allowed_root, root_permits, root_twins, member_root, member_below, member_whole, twin_same, same_twin, below_has}
use Rattle.hm_schema.proofs.References.{child_here}
use Rattle.hm_facts.proofs.Options.{is_there}
use Rattle.hm_schema.specs.Standing.{IsBelow, HasTwin, Stands, Alike}

-- ---- sets with the same trees

pub alike_back : {C D : Tree → Type 0} → Alike C D → Alike D C
alike_back a = record { into = a.from; from = a.into }

pub alike_then : {C D E : Tree → Type 0} → Alike C D → Alike D E → Alike C E
alike_then a b = record { into = λ t h. b.into t (a.into t h); from = λ t h. a.from t (b.from t h) }

-- ---- the names of a tree

pub has_below : (t : Tree) (k : Name) (x : Tree) → below k t ≡ Some x → IsTrue (contains (names_of t) k)
has_below t k x at = names_of-below t k ∙ ap is_some at

pub none_below : (t : Tree) (k : Name) → (IsTrue (contains (names_of t) k) → ⊥) → below k t ≡ None
none_below t k f = go (below k t) refl
  where
    go : (x : Option Tree) → below k t ≡ x → x ≡ None
    go None e = refl
    go (Some x) e = absurd (f (has_below t k x e))

-- ---- a part of a tree

module _ (p : Name → Bool) (t : Tree) where
  pub in_part : (k : Name) (x : Tree) → below k (part p t) ≡ Some x → IsTrue (p k) × (below k t ≡ Some x)
  in_part k x e = go (p k) refl (sym (below-part p t k) ∙ e)
    where
      go : (b : Bool) → p k ≡ b → cond b (below k t) None ≡ Some x → IsTrue (p k) × (below k t ≡ Some x)
      go true g e = (g, e)
      go false g e = absurd (none-some x e)

  pub to_part : (k : Name) (x : Tree) → IsTrue (p k) → below k t ≡ Some x → below k (part p t) ≡ Some x
  to_part k x e at = below-part p t k ∙ ap (λ b. cond b (below k t) None) e ∙ at

  pub names-part : names_of (part p t) ≡ retain (names_of t) p
  names-part = same_names _ _ (λ k. names_of-below (part p t) k ∙ ap is_some (below-part p t k) ∙ go k (p k) (below k t)
      ∙ sym (kept p (names_of t) k ∙ ap (λ b. b && p k) (names_of-below t k)))
    where
      go : (k : Name) (b : Bool) (x : Option Tree) → is_some (cond b x None) ≡ (is_some x && b)
      go k true None = refl
      go k true (Some x) = refl
      go k false None = refl
      go k false (Some x) = refl

  -- twins among the names of a part are twins of the whole, and back
  pub twin_part : (a b : Name) → IsTrue (p a) → IsTrue (p b) → HasTwin t (a, b) → HasTwin (part p t) (a, b)
  twin_part a b g h w = record { tree = w.tree; one = to_part a w.tree g w.one; two = to_part b w.tree h w.two }

  pub part_twin : (a b : Name) → HasTwin (part p t) (a, b) → HasTwin t (a, b)
  part_twin a b w = record { tree = w.tree; one = (in_part a w.tree w.one).1; two = (in_part b w.tree w.two).1 }

-- ---- what stands below a name

-- the same trees may, where the name leads to the same
pub below_as : {I : Type 0} (In : I → Tree → Type 0) (n m : NodeOver I) (k : Name) (x : Tree) → child_of n k ≡ child_of m k → IsBelow In n k x
    → IsBelow In m k x
below_as In n m k x e b = record { child = b.child; is = sym e ∙ b.is; inside = b.inside }

-- ---- the nodes of a schema

-- twins are said by paths there
pub twin_from : (t : Tree) (twin : Name × Name) → IsTwin (state (Some t)) twin.0 twin.1 → HasTwin t twin
twin_from t twin w =
    let one = is_there (below twin.0 t) (below_has t twin.0 [] w.has_one) in
    let two = is_there (below twin.1 t) (below_has t twin.1 [] w.has_two) in
    record { tree = one.0; one = one.1; two = two.1 ∙ ap Some (sym (same_twin t twin.0 twin.1 one.0 two.0 one.1 two.1 w)) }

pub twin_to : (t : Tree) (twin : Name × Name) → HasTwin t twin → IsTwin (state (Some t)) twin.0 twin.1
twin_to t twin w = twin_same t twin.0 twin.1 w.tree w.tree w.one w.two refl

module _ (s : SchemaValue) where
  -- the members at a node
  abbrev pub Inside : NodeId → Tree → Type 0
  Inside j x = IsMember s j (state (Some x))

  module _ (i : NodeId) (n : NodeValue) (here : node_at s i ≡ Some n) (t : Tree) where
    pub member_stands : Inside i t → Stands Inside n t
    member_stands m = record {
      permitted = root_permits s i n here t (member_root s i t m);
      twins = All-weaker (λ twin. IsTwin (state (Some t)) twin.0 twin.1) (HasTwin t) (twin_from t) n.twins (root_twins s i n here t (member_root s i t m));
      children = λ k x at.
          let b = found_value (λ k x. IsMemberBelow s i k x) (edges t)
          (λ j d lt. member_below s i t j (get_or (edges t) j d).0 (get_or (edges t) j d).1 (slice_get-get_or (edges t) j d lt) m) k x at in
          record { child = b.place; is = child_here s i n here k ∙ b.is; inside = b.member };
    }

    pub stands_member : Stands Inside n t → Inside i t
    stands_member h = member_whole s i t
        (allowed_root s i n here t h.permitted
        (All-weaker (HasTwin t) (λ twin. IsTwin (state (Some t)) twin.0 twin.1) (twin_to t) n.twins h.twins))
        (λ j d lt.
        let e : Name × Tree = get_or (edges t) j d in
        let b = h.children e.0 e.1 (below_edge t j e.0 e.1 (slice_get-get_or (edges t) j d lt)) in
        record { place = b.child; is = sym (child_here s i n here e.0) ∙ b.is; member = b.inside })

  -- the members at a place are the trees that stand at its node
  pub members_alike : (i : NodeId) (n : NodeValue) → node_at s i ≡ Some n → Alike (Inside i) (Stands Inside n)
  members_alike i n here = record { into = member_stands i n here; from = stands_member i n here }
