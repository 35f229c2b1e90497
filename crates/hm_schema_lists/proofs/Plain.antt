-- Which trees stand at nodes without twins, at nodes of given names, and at the nodes of one edge and of one tree.
use Rattle.std.proofs.Common.{◌≡◌, ◌↔◌, ◌<◌, ◌≤◌, Bool, true, false, cond, ◌||◌, IsTrue, IfSome, is_some, [], ◌∷◌, map, length, get_or, Some, None, All, Contains, refl, sym, ap, subst, ◌∙◌, arith, inl, inr}
use Rattle.std.proofs.lemmas.Bool.{true≢false, or_cases}
use Rattle.std.proofs.lemmas.Option.{none-some, same_Some}
use Rattle.std.proofs.lemmas.List.Elements.{All-contains, Contains-get_or}
use Rattle.std.specs.FinMap.{find}
use Rattle.std.specs.FinMap.Entries.{same_entries}
use Rattle.std.specs.FinSet.{contains, from_list, contains-from_list}
use Rattle.hm_tree.specs.Names.{Name, name_cmp}
use Rattle.hm_tree.specs.Nodes.{Tree, edges, below}
use Rattle.hm_tree.specs.NodeLaws.{edges_sorted}
use Rattle.hm_tree.proofs.Sorted.{name_total, name_one}
use Rattle.hm_tree.proofs.NameSets.{tied_one, tied_self, same_bool}
use Rattle.hm_schema.specs.declared.node.Shape.{Shape}
use Rattle.hm_schema.specs.Values.{Names, NodeOver, is_listed, child_of}
use Rattle.hm_schema.specs.Permitted.{Fits, Permits, names_of, IsWithin}
use Rattle.hm_schema.specs.WellFormed.{IsWellFormedShape}
use Rattle.hm_schema.proofs.NamesOf.{names_of-below, same_names, ascending-names_of}
use Rattle.hm_tree_parts.specs.Edges.{IsEdge, names}
use Rattle.hm_tree_parts.proofs.OneEdge.{below-edge}
use Rattle.hm_facts.proofs.Options.{is_there}
use Rattle.hm_tree_parts.proofs.Maps.{same_each}
use Rattle.hm_tree_parts.specs.Sets.{Built}
use Rattle.hm_schema.specs.OneName.{alone, is}
use Rattle.hm_schema.specs.Shapes.{Requires}
use Rattle.hm_schema.specs.Standing.{IsBelow, Stands, Alike}
use Rattle.hm_schema.proofs.Elements.{all_one, any_of, any_some}
use Rattle.hm_schema.proofs.Shapes.{required_has, zero_count, all_listed}
use Rattle.hm_schema.proofs.StandingTrees.{none_below}
use Rattle.hm_schema_lists.specs.Plain.{HasExactly, IsOf, exact_shape, edge_node, IsOnly}
use Rattle.hm_schema.proofs.OneName.{in_alone}
use Rattle.hm_schema.proofs.Reshaped.{no_twins}
use Rattle.hm_tree.specs.Sets.{ascending}

-- ---- without twins

module _ {I : Type 0} (In : I → Tree → Type 0) (n : NodeOver I) (plain : n.twins ≡ []) where
  -- the trees of which the names are permitted, and each child may stand below its name
  pub plain_alike : Alike (Stands In n) (Built (λ ks. Permits n (from_list ks)) (IsBelow In n))
  plain_alike = record {
    into = λ t h. record { names_in = h.permitted; children = h.children };
    from = λ t b. record { permitted = b.names_in; twins = no_twins n t plain; children = b.children };
  }

-- ---- of given names

module _ {I : Type 0} (n : NodeOver I) (names others : Names) where
  pub exact_fits : (a : Shape) → HasExactly names a → Fits n a others → others ≡ names
  exact_fits a h f = same_names others names (λ k. same_bool (contains others k) (contains names k)
      (λ at. h.only k (f.listed.allowed k at (all_listed n others a h.shut f k at)))
      (λ at. f.listed.required k (h.requires k at)))

  pub fits_exact : (a : Shape) → IsWellFormedShape n a → HasExactly names a → others ≡ names → Fits n a others
  fits_exact a w h e = record {
    listed = record { required = λ k r. there k (h.only k (required_has a k r)); allowed = λ k at l. required_has a k (required k at) };
    others = λ k at off. absurd (true≢false (sym (lists k at) ∙ off));
    number = subst (IsWithin a) (sym (zero_count n others lists)) (record {
      least = least;
      most = subst (λ m. IfSome m (λ most. 0 ≤ most)) (sym h.shut) (omega arith);
    });
  }
    where
      there : (k : Name) → IsTrue (contains names k) → IsTrue (contains others k)
      there k at = ap (λ s. contains s k) e ∙ at

      required : (k : Name) → IsTrue (contains others k) → Requires k a
      required k at = h.requires k (sym (ap (λ s. contains s k) e) ∙ at)

      lists : (k : Name) → IsTrue (contains others k) → IsTrue (is_listed n k)
      lists k at = w.listed k (required_has a k (required k at))

      least : a.least ≤ 0
      least = subst (λ m. IfSome m (λ most. a.least ≤ most)) h.shut w.ordered

  pub permits_exact : IsOf names n → Permits n others ↔ others ≡ names
  permits_exact h = (
    λ p. any_some (λ a. Fits n a others) (HasExactly names) (λ a x f. exact_fits a x f) n.shapes h.exact p,
    λ e. any_of (λ a. Fits n a others) n.shapes first there
        (fits_exact first (All-contains (IsWellFormedShape n) n.shapes first h.well there) (All-contains (HasExactly names) n.shapes first h.exact there) e),
  )
    where
      first : Shape
      first = get_or n.shapes 0 (exact_shape names)

      there : Contains n.shapes first
      there = Contains-get_or n.shapes 0 (exact_shape names) h.some

module _ {I : Type 0} (In : I → Tree → Type 0) (n : NodeOver I) (names : Names) (h : IsOf names n) where
  -- the trees of these names, of which each child may stand below its name
  pub exact_stands : (t : Tree) → names_of t ≡ names → ((k : Name) (x : Tree) → below k t ≡ Some x → IsBelow In n k x) → Stands In n t
  exact_stands t e all = record {
    permitted = (permits_exact n names (names_of t) h).1 e;
    twins = no_twins n t h.plain;
    children = all;
  }

  pub stands_exact : (t : Tree) → Stands In n t → names_of t ≡ names
  stands_exact t s = (permits_exact n names (names_of t) h).0 s.permitted

pub shape_exact : (names : Names) → HasExactly names (exact_shape names)
shape_exact names = record { requires = λ k at. at; only = only; shut = refl }
  where
    only : (k : Name) → IsTrue (contains names k || contains (from_list {R = name_cmp} []) k) → IsTrue (contains names k)
    only k h = elim (or_cases (contains names k) (contains (from_list {R = name_cmp} []) k) h) [
      | inl at ↦ at
      | inr at ↦ absurd (true≢false (sym at ∙ contains-from_list name_total [] k))
    ]

-- a node of the one shape of some names, which it lists
module _ {I : Type 0} (n : NodeOver I) (names : Names) where
  pub exact_of : n.shapes ≡ exact_shape names ∷ [] → n.twins ≡ [] → ((k : Name) → IsTrue (contains names k) → IsTrue (is_listed n k)) → IsOf names n
  exact_of e plain lists = record {
    well = subst (All (IsWellFormedShape n)) (sym e) (all_one (IsWellFormedShape n) (exact_shape names) (record {
      listed = λ k h. lists k ((shape_exact names).only k h);
      apart = λ k h. contains-from_list name_total [] k;
      ordered = omega arith;
      none = λ h. (refl, refl);
    }));
    some = subst (λ l. 0 < length l) (sym e) (omega arith);
    exact = subst (All (HasExactly names)) (sym e) (all_one (HasExactly names) (exact_shape names) (shape_exact names));
    plain = plain;
  }

-- a node of which each shape is that of some names
pub exact_all : {I : Type 0} (n : NodeOver I) (names : Names) → All (λ a. a ≡ exact_shape names) n.shapes → 0 < length n.shapes
    → All (IsWellFormedShape n) n.shapes → n.twins ≡ [] → IsOf names n
exact_all n names all some well plain = record {
  well = well;
  some = some;
  exact = λ i d lt. subst (HasExactly names) (sym (all i d lt)) (shape_exact names);
  plain = plain;
}

-- ---- of one name

-- the names of a tree of one edge, and back
module _ (m : Name) (t : Tree) where
  pub edge_names : (x : Tree) → IsEdge m x t → names_of t ≡ alone m
  edge_names x e = ap (λ es. from_list (map (λ (e : Name × Tree). e.0) es)) e

  pub names_edge : names_of t ≡ alone m → (x : Tree) × IsEdge m x t
  names_edge e =
      let x = is_there (below m t) (sym (names_of-below t m) ∙ ap (λ s. contains s m) e ∙ in_alone m m ∙ tied_self m) in (
        x.0,
        same_entries name_cmp name_total name_one (edges t) ((m, x.0) ∷ []) (edges_sorted t) tt
            (λ k. go x.0 x.1 k (is m k) refl),
      )
    where
      go : (x : Tree) → below m t ≡ Some x → (k : Name) (b : Bool) → is m k ≡ b → below k t ≡ cond b (Some x) None
      go x at k true g = ap (λ k. below k t) (tied_one k m g) ∙ at
      go x at k false g = none_below t k (λ there. true≢false (sym there ∙ ap (λ s. contains s k) e ∙ in_alone m k ∙ g))

-- at a node of one name those trees stand of which the one edge is that name, to what stands at what the name leads to
module _ {I : Type 0} (In : I → Tree → Type 0) (n : NodeOver I) (m : Name) (h : IsOf (alone m) n) (i : I) (leads : child_of n m ≡ Some i) where
  pub edge_stands : (t x : Tree) → IsEdge m x t → In i x → Stands In n t
  edge_stands t x e b = exact_stands In n (alone m) h t (edge_names m t x e) (λ k y at. go k y (is m k) refl
      (sym (ap (find name_cmp k) e) ∙ at))
    where
      go : (k : Name) (y : Tree) (b : Bool) → is m k ≡ b → cond b (Some x) None ≡ Some y → IsBelow In n k y
      go k y true g at = record { child = i; is = ap (child_of n) (tied_one k m g) ∙ leads; inside = subst (In i) (same_Some x y at) b }
      go k y false g at = absurd (none-some y at)

  pub stands_edge : (t : Tree) → Stands In n t → (x : Tree) × IsEdge m x t × In i x
  stands_edge t s =
      let x = names_edge m t (stands_exact In n (alone m) h t s) in
      let b = s.children m x.0 (below-edge m x.0 t x.1) in
      (x.0, x.1, subst (λ i. In i x.0) (same_Some b.child i (sym b.is ∙ leads)) b.inside)

-- the node of one edge is of its name, which leads to its child
module _ {I : Type 0} (m : Name) (i : I) where
  pub edge_node_of : IsOf (alone m) (edge_node m i)
  edge_node_of = exact_of (edge_node m i) (alone m) refl refl (λ k h. go (is m k) (sym (in_alone m k) ∙ h))
    where
      go : (b : Bool) → b ≡ true → is_some (cond b (Some i) None) ≡ true
      go true e = refl
      go false e = absurd (true≢false (sym e))

  pub edge_node_leads : child_of (edge_node m i) m ≡ Some i
  edge_node_leads = rw (tied_self m) refl

-- ---- of one tree

-- where a name leads to what holds just one tree, that tree alone may stand below it
pub only_below : {I : Type 0} (In : I → Tree → Type 0) (n : NodeOver I) (k : Name) (i : I) (x : Tree) → child_of n k ≡ Some i
    → Alike (In i) (λ y. y ≡ x) → (y : Tree) → IsBelow In n k y ↔ y ≡ x
only_below In n k i x leads only y = (
  λ b. only.into y (subst (λ i. In i y) (same_Some b.child i (sym b.is ∙ leads)) b.inside),
  λ e. record { child = i; is = leads; inside = only.from y e },
)

module _ {I : Type 0} (In : I → Tree → Type 0) (n : NodeOver I) (t : Tree) (only : IsOnly In n t) where
  pub only_alike : Alike (Stands In n) (λ u. u ≡ t)
  only_alike = record {
    into = λ u h. same_each u t (same u (stands_exact In n (names_of t) only.names u h)) (λ k y x there at.
        (only.children k x at y).0 (h.children k y there));
    from = λ u e. subst (Stands In n) (sym e) (exact_stands In n (names_of t) only.names t refl (λ k x at. (only.children k x at x).1 refl));
  }
    where
      same : (u : Tree) → names_of u ≡ names_of t → names u ≡ names t
      same u e = sym (ascending-names_of u) ∙ ap ascending e ∙ ascending-names_of t
