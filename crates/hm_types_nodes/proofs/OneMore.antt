-- Trees and nodes of which one has a name more than the other: a tree stands at the one where the tree without the name stands at
-- the other.
use Rattle.std.proofs.Common.{◌≡◌, false, cond, not, is_some, IsTrue, IsSomeAnd, [], Some, None, All, Any, refl, sym, ap, subst, ◌∙◌, inl, inr}
use Rattle.std.proofs.lemmas.Bool.{true≢false, cond_both, not-false}
use Rattle.std.proofs.lemmas.Option.{same_Some, none-some}
use Rattle.std.specs.Option.{option_or, option_map}
use Rattle.std.specs.Ordering.{eq_by_cmp}
use Rattle.std.specs.FinMap.{find}
use Rattle.std.specs.FinSet.{contains}
use Rattle.std.specs.Str.{IsUtf8}
use Rattle.hm_tree.specs.declared.class.Class.{Class}
use Rattle.hm_tree.specs.Classes.{IsInClass}
use Rattle.hm_tree.specs.Names.{Name, name_cmp}
use Rattle.hm_tree.specs.Nodes.{Tree, below, with_edge, without_edge}
use Rattle.hm_tree.proofs.Sorted.{below_with}
use Rattle.hm_tree.proofs.NameSets.{tied_one, tied_self}
use Rattle.hm_schema.specs.declared.node.Shape.{Shape}
use Rattle.hm_schema.specs.Values.{NodeOver, is_listed, child_of}
use Rattle.hm_schema.specs.Permitted.{Fits, names_of}
use Rattle.hm_schema.specs.Tidied.{has_name}
use Rattle.hm_schema.proofs.NamesOf.{names_of-below}
use Rattle.hm_tree_parts.proofs.Maps.{below-without}
use Rattle.hm_schema.specs.Standing.{IsBelow, HasTwin, Stands}
use Rattle.hm_schema.specs.Shapes.{Requires}
use Rattle.hm_schema.proofs.Shapes.{required_has}
use Rattle.hm_schema.proofs.Elements.{any_weaker, any_some}
use Rattle.hm_schema.proofs.NameSets.{same_name}
use Rattle.hm_schema.proofs.StandingTrees.{has_below, below_as}
use Rattle.hm_types_nodes.proofs.Refitted.{SameBut, same_but_back, AreSameBut, are_same_back, refit}
use Rattle.hm_schema.proofs.Reshaped.{no_twins, below_none}

-- ---- trees

-- a tree has y below a name, and another has all else that it has
pub record HasMore (o : Name) (y t u : Tree) : Type 0 where
  pub new : below o t ≡ Some y
  pub old : below o u ≡ None
  pub rest : (k : Name) → (k ≡ o → ⊥) → below k t ≡ below k u

-- a tree with an edge more, and one with an edge taken out
pub more_with : (o : Name) (y u : Tree) → IsUtf8 o → below o u ≡ None → HasMore o y (with_edge o y u) u
more_with o y u text none = record {
  new = below_with o o y u text ∙ ap (λ b. cond b (Some y) (below o u)) (tied_self o);
  old = none;
  rest = λ k f. below_with k o y u text ∙ cond_both (eq_by_cmp name_cmp k o) (Some y) (below k u) (λ z. z ≡ below k u)
      (λ e. absurd (f (tied_one k o e))) (λ e. refl);
}

pub more_without : (o : Name) (y t : Tree) → below o t ≡ Some y → HasMore o y t (without_edge o t)
more_without o y t at = record {
  new = at;
  old = below-without o t o ∙ ap (λ b. cond (not b) (below o t) None) (tied_self o);
  rest = λ k f. sym (below-without o t k ∙ cond_both (not (eq_by_cmp name_cmp o k)) (below k t) None (λ z. z ≡ below k t)
      (λ e. refl) (λ e. absurd (f (sym (tied_one o k (not-false (eq_by_cmp name_cmp o k) e))))));
}

-- ---- nodes

-- a shape requires a name, and another is the same without it
pub record AddsName (o : Name) (a b : Shape) : Type 0 where
  pub but : SameBut o a b
  pub requires : Requires o a
  pub lacks : has_name b o ≡ false

-- each shape of a node adds a name to one of another, and each of these is one that it is added to; else they list the same
pub record AddsTo {I : Type 0} (o : Name) (n m : NodeOver I) : Type 0 where
  pub listed : IsTrue (is_listed n o)
  pub children : (k : Name) → (k ≡ o → ⊥) → find name_cmp k n.children ≡ find name_cmp k m.children
  pub other : n.other ≡ m.other
  pub less : All (λ a. Any (AddsName o a) m.shapes) n.shapes
  pub more : All (λ b. Any (λ a. AddsName o a b) n.shapes) m.shapes
  pub plain : m.twins ≡ []

module _ {I : Type 0} (In : I → Tree → Type 0) (o : Name) (n m : NodeOver I) (d : AddsTo o n m) (y t u : Tree) (h : HasMore o y t u) where
  none_there : IsTrue (contains (names_of u) o) → ⊥
  none_there = below_none u o h.old

  same : AreSameBut o n m (names_of t) (names_of u)
  same = record {
    same = λ k f. names_of-below t k ∙ ap is_some (h.rest k f) ∙ sym (names_of-below u k);
    listed = λ k f. ap is_some (d.children k f);
    takes = λ k. (λ g. subst (λ o. IsSomeAnd o (λ o. IsInClass o.0 k)) d.other g, λ g. subst (λ o. IsSomeAnd o (λ o. IsInClass o.0 k)) (sym d.other) g);
    one = λ g. d.listed;
    two = λ g. absurd (none_there g);
  }

  fits_less : (a b : Shape) → AddsName o a b → Fits n a (names_of t) → Fits m b (names_of u)
  fits_less a b add = refit o n m (names_of t) (names_of u) same a b add.but
      (λ r. absurd (true≢false (sym (required_has b o r) ∙ add.lacks))) (λ g. absurd (none_there g))

  fits_more : (b a : Shape) → AddsName o a b → Fits m b (names_of u) → Fits n a (names_of t)
  fits_more b a add = refit o m n (names_of u) (names_of t) (are_same_back o n m (names_of t) (names_of u) same) b a (same_but_back o a b add.but)
      (λ r. has_below t o y h.new) (λ g. required_has a o add.requires)

  same_child : (k : Name) → (k ≡ o → ⊥) → child_of n k ≡ child_of m k
  same_child k f = λ i. option_or (d.children k f i) (option_map (λ (o : Class × I). o.1) (d.other i))

  pub stands_less : Stands In n t → Stands In m u
  stands_less s = record {
    permitted = any_some (λ a. Fits n a (names_of t)) (λ a. Any (AddsName o a) m.shapes)
        (λ a g f. any_weaker (AddsName o a) (λ b. Fits m b (names_of u)) (λ b add. fits_less a b add f) m.shapes g) n.shapes d.less s.permitted;
    twins = no_twins m u d.plain;
    children = λ k x at. elim (same_name k o) [
      | inl e ↦ absurd (none-some x (sym h.old ∙ ap (λ k. below k u) (sym e) ∙ at))
      | inr f ↦ below_as In n m k x (same_child k f) (s.children k x (h.rest k f ∙ at))
    ];
  }

  pub stands_more : Stands In m u → IsBelow In n o y → All (HasTwin t) n.twins → Stands In n t
  stands_more s new w = record {
    permitted = any_some (λ b. Fits m b (names_of u)) (λ b. Any (λ a. AddsName o a b) n.shapes)
        (λ b g f. any_weaker (λ a. AddsName o a b) (λ a. Fits n a (names_of t)) (λ a add. fits_more b a add f) n.shapes g) m.shapes d.more s.permitted;
    twins = w;
    children = λ k x at. elim (same_name k o) [
      | inl e ↦ subst (λ k. IsBelow In n k x) (sym e)
          (subst (IsBelow In n o) (same_Some y x (sym h.new ∙ ap (λ k. below k t) (sym e) ∙ at)) new)
      | inr f ↦ below_as In m n k x (sym (same_child k f)) (s.children k x (sym (h.rest k f) ∙ at))
    ];
  }
