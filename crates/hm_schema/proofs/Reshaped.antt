-- Nodes of which the shapes sit at another node, as those with other shapes: which trees stand there, and which names all of them
-- have, or none.
use Rattle.std.proofs.Common.{◌≡◌, ◌<◌, ◌⊎◌, length, false, is_some, IsTrue, List, [], get_or, Option, Some, None, All, Any, sym, ap, subst, ◌∙◌, inl, inr}
use Rattle.std.proofs.lemmas.Bool.{true≢false}
use Rattle.std.proofs.lemmas.List.Elements.{All-nil}
use Rattle.std.specs.FinSet.{contains}
use Rattle.hm_tree.specs.Names.{Name}
use Rattle.hm_tree.specs.Nodes.{Tree, below}
use Rattle.hm_schema.specs.declared.node.Shape.{Shape}
use Rattle.hm_schema.specs.Values.{NodeOver, is_listed, child_of}
use Rattle.hm_schema.specs.Permitted.{Fits, Permits, names_of}
use Rattle.hm_schema.specs.Tidied.{has_name}
use Rattle.hm_schema.specs.WellFormed.{IsWellFormedShape}
use Rattle.hm_schema.proofs.NamesOf.{names_of-below}
use Rattle.hm_facts.proofs.Options.{is_there}
use Rattle.hm_schema.specs.Standing.{IsBelow, HasTwin, Stands, Alike}
use Rattle.hm_schema.specs.Shapes.{IsShut, Requires, RequiresTwin, RequiresTwins, shaped}
use Rattle.hm_schema.proofs.Elements.{any_all, any_some}
use Rattle.hm_schema.proofs.Drawn.{all_some}
use Rattle.hm_schema.proofs.Shapes.{required_has, Sits, IsAtBoth, sits_shaped, sits_back, fits_across, at_both, all_listed}
use Rattle.hm_schema.proofs.Across.{AreRelated, none_related, some_related, below_related}
use Rattle.hm_schema.proofs.StandingTrees.{has_below, none_below, alike_back}

-- ---- what a name leads to at two nodes

module _ {I : Type 0} (In : I → Tree → Type 0) where
  -- sets with the same trees, or nothing
  abbrev pub LeadAlike : Option I → Option I → Type 0
  LeadAlike = AreRelated (λ i j. Alike (In i) (In j))

  pub lead_itself : (x : Option I) → LeadAlike x x
  lead_itself None = none_related
  lead_itself (Some i) = some_related (record { into = λ t h. h; from = λ t h. h })

  lead_back : {x y : Option I} → LeadAlike x y → LeadAlike y x
  lead_back none_related = none_related
  lead_back (some_related a) = some_related (alike_back a)

  -- so the same trees may stand below it
  below_alike : (n m : NodeOver I) (k : Name) (x : Tree) → LeadAlike (child_of n k) (child_of m k) → IsBelow In n k x → IsBelow In m k x
  below_alike n m k x lead = below_related (λ i j. Alike (In i) (In j)) In In n m k x lead (λ i j a h. a.into x h)

-- names of a tree that has nothing below a name don't have that
pub below_none : (t : Tree) (k : Name) → below k t ≡ None → IsTrue (contains (names_of t) k) → ⊥
below_none t k e at = true≢false (sym at ∙ names_of-below t k ∙ ap is_some e)

-- a node without twins has no twin that isn't there
pub no_twins : {I : Type 0} (n : NodeOver I) (t : Tree) → n.twins ≡ [] → All (HasTwin t) n.twins
no_twins n t e = subst (λ twins. All (HasTwin t) twins) (sym e) (All-nil (HasTwin t))

-- nor one that a shape doesn't require
pub plain_requires : {I : Type 0} (n : NodeOver I) → n.twins ≡ [] → RequiresTwins n
plain_requires n e i d lt = subst (λ twins. All (RequiresTwin (get_or n.shapes i d)) twins) (sym e) (All-nil (RequiresTwin (get_or n.shapes i d)))

-- ---- a node of which the shapes sit at another, where names lead to the same

module _ {I : Type 0} (In : I → Tree → Type 0) (v n : NodeOver I) (sits : All (Sits v n) v.shapes)
    (leads : (k : Name) → IsAtBoth v n k → LeadAlike In (child_of v k) (child_of n k)) (t : Tree) where
  stand_alike : Any (λ a. Fits v a (names_of t)) v.shapes → (k : Name) (x : Tree) → below k t ≡ Some x → LeadAlike In (child_of v k) (child_of n k)
  stand_alike h k x at = leads k (any_some (λ a. Fits v a (names_of t)) (Sits v n)
      (λ a s f. at_both v n a (names_of t) s f k (has_below t k x at)) v.shapes sits h)

  -- names that are permitted at the one fit one of its shapes at the other
  pub sitting_fits : Stands In v t → Any (λ a. Fits n a (names_of t)) v.shapes
  sitting_fits h = any_all (λ a. Fits v a (names_of t)) (Sits v n) (λ a. Fits n a (names_of t)) (λ a s f. fits_across v n a (names_of t) s f) v.shapes
      sits h.permitted

  pub sitting_stands : Stands In v t → Permits n (names_of t) → All (HasTwin t) n.twins → Stands In n t
  sitting_stands h f w = record {
    permitted = f;
    twins = w;
    children = λ k x at. below_alike In v n k x (stand_alike h.permitted k x at) (h.children k x at);
  }

  pub stands_sitting : Stands In n t → Any (λ a. Fits n a (names_of t)) v.shapes → All (HasTwin t) v.twins → Stands In v t
  stands_sitting h f w =
      let g = any_all (λ a. Fits n a (names_of t)) (Sits v n) (λ a. Fits v a (names_of t))
      (λ a s f. fits_across n v a (names_of t) (sits_back v n a s) f) v.shapes sits f in
      record {
        permitted = g;
        twins = w;
        children = λ k x at. below_alike In n v k x (lead_back In (stand_alike g k x at)) (h.children k x at);
      }

-- ---- a node with other shapes

module _ {I : Type 0} (In : I → Tree → Type 0) (n : NodeOver I) (shapes : List Shape) (twins : List (Name × Name)) (t : Tree) where
  abbrev v : NodeOver I
  v = shaped n shapes twins

  each_sits : All (Sits v n) shapes
  each_sits i d lt = sits_back n v (get_or shapes i d) (sits_shaped n shapes twins (get_or shapes i d))

  pub shaped_fits : Stands In v t → Any (λ a. Fits n a (names_of t)) shapes
  shaped_fits h = sitting_fits In v n each_sits (λ k b. lead_itself In (child_of n k)) t h

  pub shaped_stands : Stands In v t → Permits n (names_of t) → All (HasTwin t) n.twins → Stands In n t
  shaped_stands h f w = sitting_stands In v n each_sits (λ k b. lead_itself In (child_of n k)) t h f w

  pub stands_shaped : Stands In n t → Any (λ a. Fits n a (names_of t)) shapes → All (HasTwin t) twins → Stands In v t
  stands_shaped h f w = stands_sitting In v n each_sits (λ k b. lead_itself In (child_of n k)) t h f w

-- ---- names that each tree of a node has, or none

-- a name that each shape requires is listed
pub required_listed : {I : Type 0} (n : NodeOver I) (k : Name) → All (IsWellFormedShape n) n.shapes → 0 < length n.shapes → All (Requires k) n.shapes
    → IsTrue (is_listed n k)
required_listed n k well some all =
    let a = all_some (λ a. IsWellFormedShape n a × Requires k a) n.shapes some (λ i d lt. (well i d lt, all i d lt)) in
    a.1.0.listed k (required_has a.0 k a.1.1)

-- so are both names of a twin that each shape requires
pub twins_listed : {I : Type 0} (n : NodeOver I) → RequiresTwins n → All (IsWellFormedShape n) n.shapes → 0 < length n.shapes
    → All (λ twin. IsTrue (is_listed n twin.0) × IsTrue (is_listed n twin.1)) n.twins
twins_listed n own well some i d lt =
    let twin = get_or n.twins i d in
    (required_listed n twin.0 well some (λ j a less. (own j a less i d lt).one), required_listed n twin.1 well some (λ j a less. (own j a less i d lt).two))

module _ {I : Type 0} (In : I → Tree → Type 0) (n : NodeOver I) (k : Name) (t : Tree) (h : Stands In n t) where
  -- a name that each shape requires
  pub required_there : All (Requires k) n.shapes → (x : Tree) × (below k t ≡ Some x)
  required_there all = is_there (below k t) (sym (names_of-below t k)
      ∙ any_some (λ a. Fits n a (names_of t)) (Requires k) (λ a r f. f.listed.required k r) n.shapes all h.permitted)

  -- a name that no shape has, and that is listed where an unlisted one is let in
  pub absent_there : All (λ a. has_name a k ≡ false) n.shapes → All (λ a. IsShut a ⊎ IsTrue (is_listed n k)) n.shapes → below k t ≡ None
  absent_there none lists = none_below t k (λ at. any_some (λ a. Fits n a (names_of t)) (λ a. (has_name a k ≡ false) × (IsShut a ⊎ IsTrue (is_listed n k)))
      (λ a x f. go a x.0 f at x.1) n.shapes (λ i d lt. (none i d lt, lists i d lt)) h.permitted)
    where
      go : (a : Shape) → has_name a k ≡ false → Fits n a (names_of t) → IsTrue (contains (names_of t) k) → IsShut a ⊎ IsTrue (is_listed n k) → ⊥
      go a off f at (inl shut) = true≢false (sym (f.listed.allowed k at (all_listed n (names_of t) a shut f k at)) ∙ off)
      go a off f at (inr l) = true≢false (sym (f.listed.allowed k at l) ∙ off)
