-- Which trees stand at the two nodes that the lenses of a fork are checked at: the parts of the trees that stand at the node.
use Rattle.std.proofs.Common.{◌≡◌, ◌≤◌, ℕ, Bool, true, false, not, IsTrue, IfSome, [], ◌∷◌, get_or, Option, Some, None, All, Any, refl, sym, ap, subst, ◌∙◌, arith}
use Rattle.std.proofs.lemmas.Bool.{true≢false, and_parts, and_from, and_left, not-false}
use Rattle.std.proofs.lemmas.List.Elements.{All-head, All-filter, filter_passes}
use Rattle.std.specs.List.{filter}
use Rattle.std.specs.FinSet.{contains, retain}
use Rattle.hm_tree.specs.Names.{Name}
use Rattle.hm_tree.specs.Nodes.{Tree, below}
use Rattle.hm_tree.specs.Parts.{part}
use Rattle.hm_schema.specs.declared.node.Shape.{Shape}
use Rattle.hm_schema.specs.Values.{NodeOver, is_listed}
use Rattle.hm_schema.specs.Permitted.{Fits, Permits, names_of}
use Rattle.hm_schema.specs.WellFormed.{IsWellFormedShape}
use Rattle.hm_schema.specs.Tidied.{has_name}
use Rattle.hm_schema.proofs.NamesOf.{kept}
use Rattle.hm_tree_parts.specs.Sets.{IsSplitSet, IsWithin}
use Rattle.hm_schema.specs.Shapes.{RequiresTwin, RequiresTwins}
use Rattle.hm_schema.specs.Standing.{IsBelow, HasTwin, Stands}
use Rattle.hm_types_nodes.specs.Parting.{shape_in, shape_out, has_twin, part_node, Parts, IsParted, listed, shut}
use Rattle.hm_schema.proofs.Elements.{all_one, any_one, one_any, filter_all}
use Rattle.hm_schema.proofs.NameSets.{kept_parts, kept_from}
use Rattle.hm_schema.proofs.Shapes.{required_has, all_listed, Sits, sits_back, fits_across, sits_shaped}
use Rattle.hm_schema.proofs.StandingTrees.{none_below, in_part, to_part, names-part, twin_part, part_twin, below_as}
use Rattle.hm_types_nodes.proofs.PartedShapes.{part_shape, part_has, has_from, fits_parts, parts_fit}

-- ---- the twins of a part

module _ {I : Type 0} (n : NodeOver I) (a : Shape) (q : Name → Bool) (least : ℕ) (most : Option ℕ) where
  abbrev s : Shape
  s = part_shape q a least most

  -- the twins of a part are among its names
  passed : (twin : Name × Name) → IsTrue (has_twin s twin) → IsTrue (q twin.0) × IsTrue (q twin.1)
  passed twin h =
      let both = and_parts (has_name s twin.0) (has_name s twin.1) h in
      ((part_has q a twin.0 both.0).1, (part_has q a twin.1 both.1).1)

  has_both : (twin : Name × Name) → RequiresTwin a twin → IsTrue (q twin.0) → IsTrue (q twin.1) → IsTrue (has_twin s twin)
  has_both twin r g h = and_from (has_name s twin.0) (has_name s twin.1)
      (has_from q a twin.0 (required_has a twin.0 r.one) g)
      (has_from q a twin.1 (required_has a twin.1 r.two) h)

  part_twins : (t : Tree) → All (HasTwin t) n.twins → All (HasTwin (part q t)) (filter (has_twin s) n.twins)
  part_twins t all i d lt =
      let twin : Name × Name = get_or (filter (has_twin s) n.twins) i d in
      let pass = passed twin (filter_passes (has_twin s) n.twins i d lt) in
      twin_part q t twin.0 twin.1 pass.0 pass.1 (All-filter (has_twin s) (HasTwin t) n.twins all i d lt)

  pub part_requires : All (RequiresTwin a) n.twins → RequiresTwins (part_node n s)
  part_requires all = all_one (λ a. All (RequiresTwin a) (filter (has_twin s) n.twins)) s (λ i d lt.
      let twin : Name × Name = get_or (filter (has_twin s) n.twins) i d in
      let pass = passed twin (filter_passes (has_twin s) n.twins i d lt) in
      let r = All-filter (has_twin s) (RequiresTwin a) n.twins all i d lt in
      record { one = kept_from q a.required twin.0 r.one pass.0; two = kept_from q a.required twin.1 r.two pass.1 })

  pub part_well : IsWellFormedShape n a → IfSome most (λ most. least ≤ most) → (n.other ≡ None → (least ≡ 0) × (most ≡ Some 0))
      → All (IsWellFormedShape (part_node n s)) (part_node n s).shapes
  part_well w order none = all_one (IsWellFormedShape (part_node n s)) s (record {
    listed = λ k h. w.listed k (part_has q a k h).0;
    apart = λ k h. kept q a.optional k ∙ and_left (contains a.optional k) (q k) (w.apart k (kept_parts q a.required k h).0);
    ordered = order;
    none = none;
  })

-- ---- the trees

module _ {I : Type 0} (In : I → Tree → Type 0) (p : Name → Bool) (n : NodeOver I) (a : Shape) (parted : IsParted p n a) (own : RequiresTwins n) where
  abbrev one : NodeOver I
  one = part_node n (shape_in p a)

  abbrev two : NodeOver I
  two = part_node n (shape_out p a)

  abbrev rest : Name → Bool
  rest k = not (p k)

  requires : All (RequiresTwin a) n.twins
  requires = All-head (λ a. All (RequiresTwin a) n.twins) a [] (subst (All (λ a. All (RequiresTwin a) n.twins)) parted.one own)

  -- what fits the one shape of a node
  fits : (t : Tree) → Permits n (names_of t) → Fits n a (names_of t)
  fits t h = one_any (λ a. Fits n a (names_of t)) a (subst (Any (λ a. Fits n a (names_of t))) parted.one h)

  permits : (t : Tree) → Fits n a (names_of t) → Permits n (names_of t)
  permits t f = subst (Any (λ a. Fits n a (names_of t))) (sym parted.one) (any_one (λ a. Fits n a (names_of t)) a f)

  part_sits : (b : Shape) → Sits n (part_node n b) b
  part_sits b = sits_shaped n (b ∷ []) (filter (has_twin b) n.twins) b

  fits_part : (b : Shape) (t : Tree) → Permits (part_node n b) (names_of t) → Fits n b (names_of t)
  fits_part b t h = fits_across (part_node n b) n b (names_of t) (sits_back n (part_node n b) b (part_sits b))
      (one_any (λ c. Fits (part_node n b) c (names_of t)) b h)

  permits_part : (q : Name → Bool) (b : Shape) (t : Tree) → Fits n b (retain (names_of t) q) → Permits (part_node n b) (names_of (part q t))
  permits_part q b t f = any_one (λ c. Fits (part_node n b) c (names_of (part q t))) b
      (fits_across n (part_node n b) b (names_of (part q t)) (part_sits b) (subst (Fits n b) (sym (names-part q t)) f))

  part_below : (q : Name → Bool) (b : Shape) (t : Tree) → ((k : Name) (x : Tree) → below k t ≡ Some x → IsBelow In n k x) → (k : Name) (x : Tree)
      → below k (part q t) ≡ Some x → IsBelow In (part_node n b) k x
  part_below q b t all k x at = below_as In n (part_node n b) k x refl (all k x (in_part q t k x at).1)

  inside : (t : Tree) → Stands In n t → Stands In one (part p t)
  inside t h = record {
    permitted = permits_part p (shape_in p a) t (fits_parts n p a (names_of t) parted.parts (fits t h.permitted)).0;
    twins = part_twins n a p 0 (Some 0) t h.twins;
    children = part_below p (shape_in p a) t h.children;
  }

  outside : (t : Tree) → Stands In n t → Stands In two (part rest t)
  outside t h = record {
    permitted = permits_part rest (shape_out p a) t (fits_parts n p a (names_of t) parted.parts (fits t h.permitted)).1;
    twins = part_twins n a rest a.least a.most t h.twins;
    children = part_below rest (shape_out p a) t h.children;
  }

  whole : (t : Tree) → Stands In one (part p t) → Stands In two (part rest t) → Stands In n t
  whole t f g = record {
    permitted = permits t (parts_fit n p a (names_of t)
        (subst (Fits n (shape_in p a)) (names-part p t) (fits_part (shape_in p a) (part p t) f.permitted))
        (subst (Fits n (shape_out p a)) (names-part rest t) (fits_part (shape_out p a) (part rest t) g.permitted)));
    twins = λ i d lt. twin (get_or n.twins i d) (requires i d lt) (parted.twins i d lt)
        (filter_all (HasTwin (part p t)) (has_twin (shape_in p a)) n.twins f.twins i d lt)
        (filter_all (HasTwin (part rest t)) (has_twin (shape_out p a)) n.twins g.twins i d lt);
    children = λ k x at. child k x at (p k) refl;
  }
    where
      twin : (w : Name × Name) → RequiresTwin a w → p w.0 ≡ p w.1
          → (IsTrue (has_twin (shape_in p a) w) → HasTwin (part p t) w)
          → (IsTrue (has_twin (shape_out p a) w) → HasTwin (part rest t) w) → HasTwin t w
      twin w r e f g = go (p w.0) refl
        where
          go : (b : Bool) → p w.0 ≡ b → HasTwin t w
          go true h = part_twin p t w.0 w.1 (f (has_both n a p 0 (Some 0) w r h (sym e ∙ h)))
          go false h = part_twin rest t w.0 w.1 (g (has_both n a rest a.least a.most w r (ap not h) (ap not (sym e ∙ h))))

      child : (k : Name) (x : Tree) → below k t ≡ Some x → (b : Bool) → p k ≡ b → IsBelow In n k x
      child k x at true e = below_as In one n k x refl (f.children k x (to_part p t k x e at))
      child k x at false e = below_as In two n k x refl (g.children k x (to_part rest t k x (ap not e) at))

  in_one : (t : Tree) → Stands In one t → IsWithin p t
  in_one t h k e = none_below t k (λ there.
      let f = fits_part (shape_in p a) t h.permitted in
      true≢false (sym (part_has p a k (f.listed.allowed k there (all_listed n (names_of t) (shape_in p a) refl f k there))).1 ∙ e))

  in_two : (t : Tree) → Stands In two t → IsWithin rest t
  in_two t h k e = none_below t k (λ there.
      let f = fits_part (shape_out p a) t h.permitted in
      true≢false (sym (part_has rest a k (f.listed.allowed k there (is_there f there parted.parts))).1 ∙ e))
    where
      is_there : Fits n (shape_out p a) (names_of t) → IsTrue (contains (names_of t) k) → Parts n a p → IsTrue (is_listed n k)
      is_there f there (listed all) = all k (not-false (p k) e)
      is_there f there (shut s) = all_listed n (names_of t) (shape_out p a) s f k there

  -- the trees that stand at the node are those whose parts stand at its parts
  pub part_set : IsSplitSet p (Stands In n) (Stands In one) (Stands In two)
  part_set = record { inside = inside; outside = outside; whole = whole; in_one = in_one; in_two = in_two }

-- ---- the nodes

module _ {I : Type 0} (p : Name → Bool) (n : NodeOver I) (a : Shape) (is : n.shapes ≡ a ∷ []) where
  pub part_nodes_require : RequiresTwins n → RequiresTwins (part_node n (shape_in p a)) × RequiresTwins (part_node n (shape_out p a))
  part_nodes_require own =
      let all = All-head (λ a. All (RequiresTwin a) n.twins) a [] (subst (All (λ a. All (RequiresTwin a) n.twins)) is own) in
      (part_requires n a p 0 (Some 0) all, part_requires n a (λ k. not (p k)) a.least a.most all)

  pub part_nodes_well : All (IsWellFormedShape n) n.shapes
      → All (IsWellFormedShape (part_node n (shape_in p a))) (part_node n (shape_in p a)).shapes
      × All (IsWellFormedShape (part_node n (shape_out p a))) (part_node n (shape_out p a)).shapes
  part_nodes_well well =
      let w = All-head (IsWellFormedShape n) a [] (subst (All (IsWellFormedShape n)) is well) in
      (part_well n a p 0 (Some 0) w (omega arith) (λ e. (refl, refl)), part_well n a (λ k. not (p k)) a.least a.most w w.ordered w.none)
