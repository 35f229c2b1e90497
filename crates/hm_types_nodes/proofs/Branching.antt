-- The trees of a node are those of the node with a name, which have it, and those of the node without it, which don't.
use Rattle.std.proofs.Common.{◌≡◌, false, not, IsTrue, List, [], get_or, Option, Some, None, All, Any, refl, sym, ap, ◌∙◌, inr}
use Rattle.std.proofs.lemmas.Bool.{true≢false, or_from, not-true, false_from_ne_true}
use Rattle.std.proofs.lemmas.List.Elements.{All-nil, All-map, All-weaker, All-filter, filter_passes}
use Rattle.std.specs.List.{filter}
use Rattle.std.specs.FinSet.{contains, remove}
use Rattle.hm_tree.specs.Names.{Name}
use Rattle.hm_tree.specs.Nodes.{Tree, below}
use Rattle.hm_schema.specs.declared.node.Shape.{Shape}
use Rattle.hm_schema.specs.Values.{Names, NodeOver, is_listed}
use Rattle.hm_schema.specs.Permitted.{Fits, names_of}
use Rattle.hm_schema.specs.Tidied.{has_name}
use Rattle.hm_schema.specs.WellFormed.{IsWellFormedShape}
use Rattle.hm_tree_parts.specs.Sets.{IsBranched, Side, with_it, without_it}
use Rattle.hm_schema.specs.Standing.{HasTwin, Stands}
use Rattle.hm_schema.specs.Shapes.{Requires}
use Rattle.hm_types_nodes.specs.Branching.{requiring, lacking, shapes_with, shapes_without, node_with, node_without}
use Rattle.hm_schema.proofs.Shapes.{required_has}
use Rattle.hm_schema.proofs.Elements.{any_weaker}
use Rattle.hm_schema.proofs.Drawn.{any_mapped, mapped_any, any_filtered, filtered_any}
use Rattle.hm_schema.proofs.NameSets.{insert_new}
use Rattle.hm_schema.proofs.StandingTrees.{has_below}
use Rattle.hm_types_nodes.proofs.Refitted.{same_but_back, remove_gone, but_requiring, but_lacking, refit_here, well_but}
use Rattle.hm_schema.proofs.Reshaped.{no_twins, below_none, stands_shaped, shaped_stands, shaped_fits, required_there, absent_there}

-- what is required or optional with a name, and without it
with_has : (m : Name) (a : Shape) → Requires m (requiring m a)
with_has m a = insert_new m a.required m refl

without_lacks : (m : Name) (a : Shape) → contains a.required m ≡ false → has_name (lacking m a) m ≡ false
without_lacks m a off = or_from (contains a.required m) (contains (remove a.optional m) m) off (remove_gone m a.optional)

module _ {I : Type 0} (n : NodeOver I) (m : Name) (l : IsTrue (is_listed n m)) (names : Names) where
  abbrev F : Shape → Type 0
  F a = Fits n a names

  -- names that have it fit a shape where they fit the one with it; so do those that don't, and the one without it
  fits_with : (a : Shape) → IsTrue (contains names m) → F a → F (requiring m a)
  fits_with a at = refit_here m n names l a (requiring m a) (but_requiring m a)
      (λ r. at) (λ h. required_has (requiring m a) m (with_has m a))

  with_fits : (a : Shape) → IsTrue (has_name a m) → F (requiring m a) → F a
  with_fits a has f = refit_here m n names l (requiring m a) a
      (same_but_back m a (requiring m a) (but_requiring m a)) (λ r. f.listed.required m (with_has m a)) (λ h. has) f

  fits_without : (a : Shape) → (IsTrue (contains names m) → ⊥) → F a → F (lacking m a)
  fits_without a off f = refit_here m n names l a (lacking m a) (but_lacking m a)
      (λ r. f.listed.required m r) (λ h. absurd (off h)) f

  without_fits : (a : Shape) → contains a.required m ≡ false → F (lacking m a) → F a
  without_fits a off f = refit_here m n names l (lacking m a) a
      (same_but_back m a (lacking m a) (but_lacking m a)) (λ r. f.listed.required m r)
      (λ h. absurd (true≢false (sym (f.listed.allowed m h l) ∙ without_lacks m a off))) f

  into_with : IsTrue (contains names m) → Any F n.shapes → Any F (shapes_with m n.shapes)
  into_with at h = any_mapped F (requiring m) (filter (λ a. has_name a m) n.shapes)
      (any_filtered (λ a. F (requiring m a)) (λ a. has_name a m) n.shapes
      (any_weaker F (λ a. IsTrue (has_name a m) × F (requiring m a)) (λ a f. (f.listed.allowed m at l, fits_with a at f)) n.shapes h))

  from_with : Any F (shapes_with m n.shapes) → Any F n.shapes
  from_with h = any_weaker (λ a. IsTrue (has_name a m) × F (requiring m a)) F (λ a x. with_fits a x.0 x.1) n.shapes
      (filtered_any (λ a. F (requiring m a)) (λ a. has_name a m) n.shapes (mapped_any F (requiring m) (filter (λ a. has_name a m) n.shapes) h))

  into_without : (IsTrue (contains names m) → ⊥) → Any F n.shapes → Any F (shapes_without m n.shapes)
  into_without off h = any_mapped F (lacking m) (filter (λ a. not (contains a.required m)) n.shapes)
      (any_filtered (λ a. F (lacking m a)) (λ a. not (contains a.required m)) n.shapes
      (any_weaker F (λ a. IsTrue (not (contains a.required m)) × F (lacking m a))
      (λ a f. (ap not (false_from_ne_true (contains a.required m) (λ r. off (f.listed.required m r))), fits_without a off f)) n.shapes h))

  from_without : Any F (shapes_without m n.shapes) → Any F n.shapes
  from_without h = any_weaker (λ a. IsTrue (not (contains a.required m)) × F (lacking m a)) F
      (λ a x. without_fits a (not-true (contains a.required m) x.0) x.1) n.shapes
      (filtered_any (λ a. F (lacking m a)) (λ a. not (contains a.required m)) n.shapes
      (mapped_any F (lacking m) (filter (λ a. not (contains a.required m)) n.shapes) h))

-- each shape with the name requires it, and none of the others has it
all_with : (m : Name) (xs : List Shape) → All (Requires m) (shapes_with m xs)
all_with m xs = All-map (Requires m) (requiring m) (filter (λ a. has_name a m) xs)
    (λ i d lt. with_has m (get_or (filter (λ a. has_name a m) xs) i d))

none_without : (m : Name) (xs : List Shape) → All (λ a. has_name a m ≡ false) (shapes_without m xs)
none_without m xs = All-map (λ a. has_name a m ≡ false) (lacking m) (filter (λ a. not (contains a.required m)) xs)
    (All-weaker (λ a. IsTrue (not (contains a.required m))) (λ a. has_name (lacking m a) m ≡ false)
    (λ a off. without_lacks m a (not-true (contains a.required m) off)) (filter (λ a. not (contains a.required m)) xs)
    (filter_passes (λ a. not (contains a.required m)) xs))

module _ {I : Type 0} (In : I → Tree → Type 0) (n : NodeOver I) (m : Name) (l : IsTrue (is_listed n m)) (plain : n.twins ≡ []) where
  pub branch_set : IsBranched m (Stands In n) (Stands In (node_with m n)) (Stands In (node_without m n))
  branch_set = record {
    side = λ t h. side t h (below m t) refl;
    one = λ t h. shaped_stands In n (shapes_with m n.shapes) [] t h
        (from_with n m l (names_of t) (shaped_fits In n (shapes_with m n.shapes) [] t h)) (no_twins n t plain);
    two = λ t h. shaped_stands In n (shapes_without m n.shapes) [] t h
        (from_without n m l (names_of t) (shaped_fits In n (shapes_without m n.shapes) [] t h)) (no_twins n t plain);
    one_has = λ t h. required_there In (node_with m n) m t h (all_with m n.shapes);
    two_lacks = λ t h. absent_there In (node_without m n) m t h (none_without m n.shapes) (λ i d lt. inr l);
  }
    where
      side : (t : Tree) → Stands In n t → (x : Option Tree) → below m t ≡ x
          → Side m (Stands In n) (Stands In (node_with m n)) (Stands In (node_without m n)) t
      side t h (Some x) e = with_it e (stands_shaped In n (shapes_with m n.shapes) [] t h
          (into_with n m l (names_of t) (has_below t m x e) h.permitted) (All-nil (HasTwin t)))
      side t h None e = without_it e (stands_shaped In n (shapes_without m n.shapes) [] t h
          (into_without n m l (names_of t) (below_none t m e) h.permitted) (All-nil (HasTwin t)))

-- ---- their shapes are well formed

module _ {I : Type 0} (n : NodeOver I) (m : Name) (l : IsTrue (is_listed n m)) (well : All (IsWellFormedShape n) n.shapes) where
  pub with_well : All (IsWellFormedShape (node_with m n)) (shapes_with m n.shapes)
  with_well = All-map (IsWellFormedShape (node_with m n)) (requiring m) (filter (λ a. has_name a m) n.shapes)
      (All-weaker (IsWellFormedShape n) (λ a. IsWellFormedShape (node_with m n) (requiring m a))
      (λ a w. well_but m n (node_with m n) a (requiring m a) (but_requiring m a) (λ k d h. h) (λ e. e) (λ h. l) (λ r. remove_gone m a.optional) w)
      (filter (λ a. has_name a m) n.shapes) (All-filter (λ a. has_name a m) (IsWellFormedShape n) n.shapes well))

  pub without_well : All (IsWellFormedShape (node_without m n)) (shapes_without m n.shapes)
  without_well = All-map (IsWellFormedShape (node_without m n)) (lacking m) (filter (λ a. not (contains a.required m)) n.shapes)
      (All-weaker (IsWellFormedShape n) (λ a. IsWellFormedShape (node_without m n) (lacking m a))
      (λ a w. well_but m n (node_without m n) a (lacking m a) (but_lacking m a) (λ k d h. h) (λ e. e) (λ h. l) (λ r. remove_gone m a.optional) w)
      (filter (λ a. not (contains a.required m)) n.shapes) (All-filter (λ a. not (contains a.required m)) (IsWellFormedShape n) n.shapes well))
