-- Shapes merged on a name: names that have it fit a merged shape where they fit one of the first shapes, and names without it
-- where they fit one of the second.
use Rattle.std.proofs.Common.{◌≡◌, ◌↔◌, ℕ, ◌==◌, Bool, true, false, cond, not, ◌&&◌, IsTrue, List, [], ◌∷◌, Option, Some, None, All, Any, Contains, refl, sym, ap, subst, ◌∙◌, inl, inr}
use Rattle.std.proofs.lemmas.Bool.{true≢false, and_parts, and_from, or_right, eqb-true, eq-eqb, cond_both, cond-true}
use Rattle.std.proofs.lemmas.List.Elements.{All-contains_itself}
use Rattle.std.proofs.lemmas.List.Folds.{Any-from_list_any, list_any-from_Any}
use Rattle.std.specs.List.{list_any}
use Rattle.std.specs.Ordering.{eq_by_cmp}
use Rattle.std.specs.FinSet.{contains, insert, remove, from_list}
use Rattle.hm_tree.specs.Names.{Name, name_cmp}
use Rattle.hm_tree.specs.Sets.{ascending}
use Rattle.hm_tree.proofs.Ascending.{set_of-ascending}
use Rattle.hm_tree.proofs.NameSets.{tied_one, tied_self}
use Rattle.hm_schema.specs.declared.node.Shape.{Shape}
use Rattle.hm_schema.specs.Values.{Names, NodeOver, is_listed}
use Rattle.hm_schema.specs.Permitted.{Fits}
use Rattle.hm_schema.specs.Tidied.{has_name}
use Rattle.hm_schema.specs.Shapes.{Requires}
use Rattle.hm_types_nodes.specs.Merging.{same_names, same_set, same_bound, same_shape, unrequired, loosened, differs_in, merged_first, merged_rest, merged_shapes}
use Rattle.hm_schema.proofs.Shapes.{required_has}
use Rattle.hm_schema.proofs.Elements.{any_weaker, any_all, any_some, any_of}
use Rattle.hm_schema.proofs.Drawn.{any_left, any_right, any_split, any_mapped, mapped_any, any_filtered, filtered_any}
use Rattle.hm_schema.proofs.NameSets.{insert_new}
use Rattle.hm_types_nodes.proofs.Refitted.{SameBut, same_but_back, same_but_then, remove_gone, but_unrequired, but_loosened, refit_here}

-- ---- the test that two shapes are equal

names_one : (ks ms : List Name) → IsTrue (same_names ks ms) → ks ≡ ms
names_one [] [] e = refl
names_one [] (m ∷ ms) e = absurd (true≢false (sym e))
names_one (k ∷ ks) [] e = absurd (true≢false (sym e))
names_one (k ∷ ks) (m ∷ ms) e =
    let x = and_parts (eq_by_cmp name_cmp k m) (same_names ks ms) e in
    let rest = names_one ks ms x.1 in
    λ i. tied_one k m x.0 i ∷ rest i

names_self : (ks : List Name) → IsTrue (same_names ks ks)
names_self [] = refl
names_self (k ∷ ks) = and_from (eq_by_cmp name_cmp k k) (same_names ks ks) (tied_self k) (names_self ks)

set_one : (a b : Names) → IsTrue (same_set a b) → a ≡ b
set_one a b e = sym (set_of-ascending a) ∙ ap from_list (names_one (ascending a) (ascending b) e) ∙ set_of-ascending b

bound_one : (x y : Option ℕ) → IsTrue (same_bound x y) → x ≡ y
bound_one None None e = refl
bound_one None (Some n) e = absurd (true≢false (sym e))
bound_one (Some m) None e = absurd (true≢false (sym e))
bound_one (Some m) (Some n) e = ap Some (eqb-true m n e)

bound_self : (x : Option ℕ) → IsTrue (same_bound x x)
bound_self None = refl
bound_self (Some m) = eq-eqb m m refl

shape_one : (a b : Shape) → IsTrue (same_shape a b) → a ≡ b
shape_one a b e =
    let x = and_parts (same_set a.required b.required) (same_set a.optional b.optional && ((a.least == b.least) && same_bound a.most b.most)) e in
    let y = and_parts (same_set a.optional b.optional) ((a.least == b.least) && same_bound a.most b.most) x.1 in
    let z = and_parts (a.least == b.least) (same_bound a.most b.most) y.1 in
    λ i. record {
      required = set_one a.required b.required x.0 i;
      optional = set_one a.optional b.optional y.0 i;
      least = eqb-true a.least b.least z.0 i;
      most = bound_one a.most b.most z.1 i;
    }

shape_self : (a : Shape) → IsTrue (same_shape a a)
shape_self a = and_from (same_set a.required a.required) (same_set a.optional a.optional && ((a.least == a.least) && same_bound a.most a.most))
    (names_self (ascending a.required))
    (and_from (same_set a.optional a.optional) ((a.least == a.least) && same_bound a.most a.most) (names_self (ascending a.optional))
    (and_from (a.least == a.least) (same_bound a.most a.most) (eq-eqb a.least a.least refl) (bound_self a.most)))

pub same_shape_is : (a b : Shape) → IsTrue (same_shape a b) ↔ (a ≡ b)
same_shape_is a b = (shape_one a b, λ e. subst (λ b. IsTrue (same_shape a b)) e (shape_self a))

-- ---- one shape

-- the shape that a first shape differs from is that one without the name
differs_from : (m : Name) (a b : Shape) → IsTrue (differs_in m a b) → unrequired m a ≡ b
differs_from m a b e = shape_one (unrequired m a) b e

module _ {I : Type 0} (n : NodeOver I) (m : Name) (l : IsTrue (is_listed n m)) (names : Names) where
  abbrev F : Shape → Type 0
  F a = Fits n a names

  loosen : (a b : Shape) → SameBut m b (loosened m a) → F b → F (loosened m a)
  loosen a b but f = refit_here m n names l b (loosened m a) but (λ r. absurd (true≢false (sym r ∙ remove_gone m a.required)))
      (λ h. or_right (contains (remove a.required m) m) (contains (insert a.optional m) m) (insert_new m a.optional m refl)) f

  loosen_bare : (a : Shape) → F (unrequired m a) → F (loosened m a)
  loosen_bare a f = loosen a (unrequired m a)
      (same_but_then m (unrequired m a) a (loosened m a) (same_but_back m a (unrequired m a) (but_unrequired m a)) (but_loosened m a)) f

  tighten : (a : Shape) → Requires m a → IsTrue (contains names m) → F (loosened m a) → F a
  tighten a r at f = refit_here m n names l (loosened m a) a (same_but_back m a (loosened m a) (but_loosened m a)) (λ h. at)
      (λ h. required_has a m r) f

  bare : (a : Shape) → (IsTrue (contains names m) → ⊥) → F (loosened m a) → F (unrequired m a)
  bare a off f = refit_here m n names l (loosened m a) (unrequired m a)
      (same_but_then m (loosened m a) a (unrequired m a) (same_but_back m a (loosened m a) (but_loosened m a)) (but_unrequired m a))
      (λ r. absurd (true≢false (sym r ∙ remove_gone m a.required))) (λ h. absurd (off h)) f

  -- ---- lists of shapes

  module _ (xs ys : List Shape) where
    abbrev taken : Shape → Shape
    taken a = cond (list_any (differs_in m a) ys) (loosened m a) a

    pub one_into : Any F xs → Any F (merged_shapes m xs ys)
    one_into h = any_left F (merged_first m xs ys) (merged_rest m xs ys) (any_mapped F taken xs (any_weaker F (λ a. F (taken a)) go xs h))
      where
        go : (a : Shape) → F a → F (taken a)
        go a f = cond_both (list_any (differs_in m a) ys) (loosened m a) a F (λ e. loosen a a (but_loosened m a) f) (λ e. f)

    -- one of the second shapes: a first one that differs from it so is loosened, or it stays
    two_at : (b : Shape) → Contains ys b → F b → Any F (merged_shapes m xs ys)
    two_at b c f = go (list_any (λ a. differs_in m a b) xs) refl
      where
        at : (a : Shape) → IsTrue (differs_in m a b) → F (taken a)
        at a e =
            let there = list_any-from_Any (differs_in m a) ys (any_of (λ b. IsTrue (differs_in m a b)) ys b c e) in
            subst F (sym (cond-true (list_any (differs_in m a) ys) (loosened m a) a there)) (loosen_bare a (subst F (sym (differs_from m a b e)) f))

        go : (q : Bool) → list_any (λ a. differs_in m a b) xs ≡ q → Any F (merged_shapes m xs ys)
        go true e = any_left F (merged_first m xs ys) (merged_rest m xs ys) (any_mapped F taken xs
            (any_weaker (λ a. IsTrue (differs_in m a b)) (λ a. F (taken a)) at xs (Any-from_list_any (λ a. differs_in m a b) xs e)))
        go false e = any_right F (merged_first m xs ys) (merged_rest m xs ys)
            (any_filtered F (λ b. not (list_any (λ a. differs_in m a b) xs)) ys
            (any_of (λ b. IsTrue (not (list_any (λ a. differs_in m a b) xs)) × F b) ys b c (ap not e, f)))

    pub two_into : Any F ys → Any F (merged_shapes m xs ys)
    two_into h = any_some F (Contains ys) two_at ys (All-contains_itself ys) h

    rest_in : Any F (merged_rest m xs ys) → Any F ys
    rest_in h = any_weaker (λ b. IsTrue (not (list_any (λ a. differs_in m a b) xs)) × F b) F (λ b x. x.1) ys
        (filtered_any F (λ b. not (list_any (λ a. differs_in m a b) xs)) ys h)

    pub one_from : IsTrue (contains names m) → All (Requires m) xs → All (λ b. has_name b m ≡ false) ys → Any F (merged_shapes m xs ys) → Any F xs
    one_from at required absent h = elim (any_split F (merged_first m xs ys) (merged_rest m xs ys) h) [
      | inl g ↦ any_all (λ a. F (taken a)) (Requires m) F go xs required (mapped_any F taken xs g)
      | inr g ↦ absurd (any_some F (λ b. has_name b m ≡ false) (λ b off f. true≢false (sym (f.listed.allowed m at l) ∙ off)) ys absent (rest_in g))
    ]
      where
        go : (a : Shape) → Requires m a → F (taken a) → F a
        go a r f = by (list_any (differs_in m a) ys) f
          where
            by : (q : Bool) → F (cond q (loosened m a) a) → F a
            by true f = tighten a r at f
            by false f = f

    pub two_from : (IsTrue (contains names m) → ⊥) → All (Requires m) xs → Any F (merged_shapes m xs ys) → Any F ys
    two_from off required h = elim (any_split F (merged_first m xs ys) (merged_rest m xs ys) h) [
      | inl g ↦ any_some (λ a. F (taken a)) (Requires m) go xs required (mapped_any F taken xs g)
      | inr g ↦ rest_in g
    ]
      where
        go : (a : Shape) → Requires m a → F (taken a) → Any F ys
        go a r f = by (list_any (differs_in m a) ys) refl f
          where
            by : (q : Bool) → list_any (differs_in m a) ys ≡ q → F (cond q (loosened m a) a) → Any F ys
            by true e f = any_weaker (λ b. IsTrue (differs_in m a b)) F (λ b e. subst F (differs_from m a b e) (bare a off f)) ys
                (Any-from_list_any (differs_in m a) ys e)
            by false e f = absurd (off (f.listed.required m r))
