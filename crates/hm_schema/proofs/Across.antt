-- What stands at a node stands at another, where its shapes are among those of the other and sit at both.
use Rattle.std.proofs.Common.{◌≡◌, is_some, get_or, Option, Some, None, Contains, refl, subst}
use Rattle.std.proofs.lemmas.Option.{none-some, same_Some}
use Rattle.std.proofs.lemmas.List.Elements.{All-contains, Contains-get_or}
use Rattle.std.specs.Option.{option_or}
use Rattle.hm_tree.specs.Names.{Name}
use Rattle.hm_tree.specs.Nodes.{Tree, below}
use Rattle.hm_schema.specs.declared.node.Shape.{Shape}
use Rattle.hm_schema.specs.Values.{NodeOver, child_of}
use Rattle.hm_schema.specs.Permitted.{Fits, names_of}
use Rattle.hm_schema.specs.Standing.{IsBelow, HasTwin, Stands}
use Rattle.hm_schema.proofs.Elements.{any_of}
use Rattle.hm_schema.proofs.Shapes.{Sits, IsAtBoth, fits_across, at_both}
use Rattle.hm_schema.proofs.StandingTrees.{has_below}

-- two values are both missing, or they are related
pub data AreRelated {I J : Type 0} (R : I → J → Type 0) : Option I → Option J → Type 0 where
  none_related : AreRelated R None None
  some_related : {i : I} {j : J} → R i j → AreRelated R (Some i) (Some j)

module _ {I J : Type 0} {R : I → J → Type 0} where
  pub related_back : {x : Option I} {y : Option J} → AreRelated R x y → AreRelated (λ j i. R i j) y x
  related_back none_related = none_related
  related_back (some_related r) = some_related r

  pub related_some : {x : Option I} {y : Option J} → AreRelated R x y → is_some x ≡ is_some y
  related_some none_related = refl
  related_some (some_related r) = refl

  pub related_or : {x p : Option I} {y q : Option J} → AreRelated R x y → AreRelated R p q → AreRelated R (option_or x p) (option_or y q)
  related_or none_related b = b
  related_or (some_related r) b = some_related r

  -- what the first is, the second is related to
  pub related_there : {x : Option I} {y : Option J} (i : I) → AreRelated R x y → x ≡ Some i → (j : J) × (y ≡ Some j) × R i j
  related_there i none_related e = absurd (none-some i e)
  related_there i (some_related {i = h} {j = j} r) e = (j, refl, subst (λ i. R i j) (same_Some h i e) r)

-- the same is missing, or there, at both
pub related_same : {I : Type 0} (x y : Option I) → x ≡ y → AreRelated (λ i j. i ≡ j) x y
related_same {I = I} x y e = subst (AreRelated (λ i j. i ≡ j) x) e (go x)
  where
    go : (x : Option I) → AreRelated (λ i j. i ≡ j) x x
    go None = none_related
    go (Some i) = some_related refl

-- so what stands below a name of one stands below it at the other, where related values carry it over
pub below_related : {I J : Type 0} (R : I → J → Type 0) (In : I → Tree → Type 0) (Jn : J → Tree → Type 0) (n : NodeOver I) (m : NodeOver J) (k : Name)
    (x : Tree) → AreRelated R (child_of n k) (child_of m k) → ((i : I) (j : J) → R i j → In i x → Jn j x) → IsBelow In n k x → IsBelow Jn m k x
below_related R In Jn n m k x lead carries b =
    let c = related_there b.child lead b.is in
    record { child = c.0; is = c.1; inside = carries b.child c.0 c.2 b.inside }

module _ {I J : Type 0} (R : I → J → Type 0) (In : I → Tree → Type 0) (Jn : J → Tree → Type 0) (n : NodeOver I) (m : NodeOver J) (t : Tree) where
  -- what a name leads to at both, where it is listed at both or at neither
  abbrev pub LeadAlike : Type 0
  LeadAlike = (k : Name) → IsAtBoth n m k → AreRelated R (child_of n k) (child_of m k)

  -- below a tree, related trees of one are those of the other
  abbrev pub CarriesBelow : Type 0
  CarriesBelow = (k : Name) (x : Tree) → below k t ≡ Some x → (i : I) (j : J) → R i j → In i x → Jn j x

  pub stands_across : ((a : Shape) → Contains n.shapes a → Contains m.shapes a × Sits n m a)
      → ((twin : Name × Name) → Contains m.twins twin → Contains n.twins twin) → LeadAlike → CarriesBelow → Stands In n t → Stands Jn m t
  stands_across shapes twins lead carries h = record {
    permitted = let p = h.permitted in
        let s = shapes p.1 (p.0, p.2, p.3) in
        any_of (λ a. Fits m a (names_of t)) m.shapes p.1 s.0 (fits_across n m p.1 (names_of t) s.1 p.4);
    twins = λ i d lt.
        All-contains (HasTwin t) n.twins (get_or m.twins i d) h.twins (twins (get_or m.twins i d) (Contains-get_or m.twins i d lt));
    children = λ k x at.
        let p = h.permitted in
        let here = at_both n m p.1 (names_of t) (shapes p.1 (p.0, p.2, p.3)).1 p.4 k (has_below t k x at) in
        below_related R In Jn n m k x (lead k here) (carries k x at) (h.children k x at);
  }
