-- The trees of the node that two views are merged to: those that have the name are the first view's, those without it the second's.
use Rattle.std.proofs.Common.{◌≡◌, ◌↔◌, ◌⊎◌, ◌<◌, Bool, true, false, cond, ◌||◌, is_some, IsTrue, IsSomeAnd, List, [], ◌∷◌, not, length, get_or, Option, Some, None, All, Any, refl, sym, ap, subst, ◌∙◌, arith, inl, inr}
use Rattle.std.proofs.lemmas.Bool.{true≢false, or_left, or_right, cond_both}
use Rattle.std.proofs.lemmas.Option.{none-some}
use Rattle.std.proofs.lemmas.List.Elements.{All-weaker, All-append, All-map, All-filter}
use Rattle.std.specs.List.{list_any}
use Rattle.std.specs.Option.{option_or, option_map}
use Rattle.std.specs.FinMap.{find}
use Rattle.hm_tree.specs.declared.class.Class.{Class}
use Rattle.hm_tree.specs.Classes.{IsInClass}
use Rattle.hm_tree.specs.Names.{Name, name_cmp}
use Rattle.hm_tree.specs.Nodes.{Tree, below}
use Rattle.hm_schema.specs.declared.node.Shape.{Shape}
use Rattle.hm_schema.specs.Values.{NodeOver, is_listed, child_of}
use Rattle.hm_schema.specs.Permitted.{Fits, Permits, Takes, names_of}
use Rattle.hm_schema.specs.WellFormed.{IsWellFormedShape}
use Rattle.hm_tree_parts.specs.Sets.{IsBranched, Side, with_it, without_it}
use Rattle.hm_schema.specs.Standing.{Stands, Alike}
use Rattle.hm_schema.specs.Shapes.{IsShut}
use Rattle.hm_types_nodes.specs.Merging.{CanMerge, IsMerged, merged_shapes, merged_first, merged_rest, differs_in, loosened}
use Rattle.hm_schema.proofs.Shapes.{Sits, shut, alike, IsAtBoth, listed_both, other_both}
use Rattle.hm_schema.proofs.Across.{some_related}
use Rattle.hm_schema.proofs.StandingTrees.{has_below, alike_back}
use Rattle.hm_types_nodes.proofs.MergedShapes.{one_into, two_into, one_from, two_from}
use Rattle.hm_types_nodes.proofs.Refitted.{remove_gone, but_loosened, well_but, well_at}
use Rattle.hm_schema.proofs.Reshaped.{LeadAlike, lead_itself, no_twins, below_none, sitting_fits, sitting_stands, stands_sitting, required_listed, required_there, absent_there}

-- ---- two options, and the first of them that is there

some_or : {X : Type 0} (x y : Option X) → is_some (option_or x y) ≡ (is_some x || is_some y)
some_or None y = refl
some_or (Some x) y = refl

none_or : {X : Type 0} (x y : Option X) → option_or x y ≡ None → (x ≡ None) × (y ≡ None)
none_or None y e = (refl, e)
none_or (Some x) y e = absurd (none-some x (sym e))

or_itself : (a b : Bool) → a ≡ b → (a ≡ (a || b)) × (b ≡ (a || b))
or_itself true b e = (refl, sym e)
or_itself false b e = (e, refl)

-- ---- all other names

module _ {I : Type 0} (R : I → I → Type 0) where
  abbrev Other : Type 0
  Other = Option (Class × I)

  abbrev Agree : Other → Other → Type 0
  Agree o p = (x y : Class × I) → o ≡ Some x → p ≡ Some y → (x.0 ≡ y.0) × R x.1 y.1

  abbrev takes : Other → Name → Type 0
  takes o k = IsSomeAnd o (λ (o : Class × I). IsInClass o.0 k)

  abbrev leads : Other → Option I
  leads o = option_map (λ (o : Class × I). o.1) o

  one_takes : (o p : Other) (x : Class × I) → o ≡ Some x → (k : Name) → takes o k ↔ takes (option_or o p) k
  one_takes None p x e k = absurd (none-some x e)
  one_takes (Some x) p y e k = (λ h. h, λ h. h)

  two_takes : (o p : Other) (y : Class × I) → p ≡ Some y → Agree o p → (k : Name) → takes p k ↔ takes (option_or o p) k
  two_takes o None y e agree k = absurd (none-some y e)
  two_takes None (Some p) y e agree k = (λ h. h, λ h. h)
  two_takes (Some o) (Some p) y e agree k =
      let same = (agree o p refl refl).0 in
      (λ h. subst (λ c. IsInClass c k) (sym same) h, λ h. subst (λ c. IsInClass c k) same h)

  -- ---- what a name leads to

  module _ (In : I → Tree → Type 0) (same : (i j : I) → R i j → Alike (In i) (In j)) where
    one_listed : (p q : Option I) (o u : Other) → IsTrue (is_some p) → LeadAlike In (option_or p (leads o)) (option_or (option_or p q) (leads u))
    one_listed None q o u l = absurd (true≢false (sym l))
    one_listed (Some i) q o u l = lead_itself In (Some i)

    one_other : (p q : Option I) (o u : Other) (k : Name) → is_some (option_or p q) ≡ false → takes o k
        → LeadAlike In (option_or p (leads o)) (option_or (option_or p q) (leads (option_or o u)))
    one_other (Some i) q o u k off h = absurd (true≢false off)
    one_other None (Some j) o u k off h = absurd (true≢false off)
    one_other None None None u k off h = absurd h
    one_other None None (Some o) u k off h = lead_itself In (Some o.1)

    two_listed : (p q : Option I) (o u : Other) → ((i j : I) → p ≡ Some i → q ≡ Some j → R i j) → IsTrue (is_some q)
        → LeadAlike In (option_or q (leads o)) (option_or (option_or p q) (leads u))
    two_listed p None o u agree l = absurd (true≢false (sym l))
    two_listed None (Some j) o u agree l = lead_itself In (Some j)
    two_listed (Some i) (Some j) o u agree l = some_related (alike_back (same i j (agree i j refl refl)))

    two_other : (p q : Option I) (o u : Other) (k : Name) → Agree o u → is_some (option_or p q) ≡ false → takes u k
        → LeadAlike In (option_or q (leads u)) (option_or (option_or p q) (leads (option_or o u)))
    two_other (Some i) q o u k agree off h = absurd (true≢false off)
    two_other None (Some j) o u k agree off h = absurd (true≢false off)
    two_other None None o None k agree off h = absurd h
    two_other None None None (Some u) k agree off h = lead_itself In (Some u.1)
    two_other None None (Some o) (Some u) k agree off h = some_related (alike_back (same o.1 u.1 (agree o u refl refl).1))

module _ {I : Type 0} (In : I → Tree → Type 0) (R : I → I → Type 0) (same : (i j : I) → R i j → Alike (In i) (In j)) (m : Name) (one two n : NodeOver I)
    (c : CanMerge R m one two) (g : IsMerged m one two n) (well_one : All (IsWellFormedShape one) one.shapes)
    (well_two : All (IsWellFormedShape two) two.shapes) (some : 0 < length one.shapes) where
  listed_n : (k : Name) → is_listed n k ≡ (is_listed one k || is_listed two k)
  listed_n k = ap is_some (g.children k) ∙ some_or (find name_cmp k one.children) (find name_cmp k two.children)

  up_one : (k : Name) → IsTrue (is_listed one k) → IsTrue (is_listed n k)
  up_one k l = listed_n k ∙ or_left (is_listed one k) (is_listed two k) l

  up_two : (k : Name) → IsTrue (is_listed two k) → IsTrue (is_listed n k)
  up_two k l = listed_n k ∙ or_right (is_listed one k) (is_listed two k) l

  listed_m : IsTrue (is_listed n m)
  listed_m = up_one m (required_listed one m well_one some c.required)

  no_other : n.other ≡ None → (one.other ≡ None) × (two.other ≡ None)
  no_other e = none_or one.other two.other (sym g.other ∙ e)

  -- ---- each shape of the views sits at the merged node

  sit : (v : NodeOver I) (a : Shape) → IsWellFormedShape v a → ((k : Name) → IsTrue (is_listed v k) → IsTrue (is_listed n k))
      → ((x : Class × I) → v.other ≡ Some x → (k : Name) → Takes v k ↔ Takes n k) → IsShut a ⊎ ((k : Name) → is_listed v k ≡ is_listed n k)
      → Sits v n a
  sit v a w lists takes (inl s) = shut s (λ k h. let l = w.listed k h in (l, lists k l))
  sit v a w lists takes (inr e) = go v.other refl
    where
      go : (o : Option (Class × I)) → v.other ≡ o → Sits v n a
      go None is = shut (w.none is).1 (λ k h. let l = w.listed k h in (l, lists k l))
      go (Some x) is = alike e (takes x is)

  takes_one : (x : Class × I) → one.other ≡ Some x → (k : Name) → Takes one k ↔ Takes n k
  takes_one x e k = subst (λ o. Takes one k ↔ takes R o k) (sym g.other) (one_takes R one.other two.other x e k)

  takes_two : (x : Class × I) → two.other ≡ Some x → (k : Name) → Takes two k ↔ Takes n k
  takes_two x e k = subst (λ o. Takes two k ↔ takes R o k) (sym g.other) (two_takes R one.other two.other x e c.agree.others k)

  sits_one : All (Sits one n) one.shapes
  sits_one i d lt = sit one (get_or one.shapes i d) (well_one i d lt) up_one takes_one (elim c.agree.listed [
    | inl s ↦ inl (s.0 i d lt)
    | inr e ↦ inr (λ k. (or_itself (is_listed one k) (is_listed two k) (e k)).0 ∙ sym (listed_n k))
  ])

  sits_two : All (Sits two n) two.shapes
  sits_two i d lt = sit two (get_or two.shapes i d) (well_two i d lt) up_two takes_two (elim c.agree.listed [
    | inl s ↦ inl (s.1 i d lt)
    | inr e ↦ inr (λ k. (or_itself (is_listed one k) (is_listed two k) (e k)).1 ∙ sym (listed_n k))
  ])

  -- ---- names lead to the same there

  child_n : (k : Name) → option_or (option_or (find name_cmp k one.children) (find name_cmp k two.children)) (leads R (option_or one.other two.other))
      ≡ child_of n k
  child_n k = sym (ap (λ x. option_or x (leads R n.other)) (g.children k)
      ∙ ap (λ o. option_or (option_or (find name_cmp k one.children) (find name_cmp k two.children)) (leads R o)) g.other)

  off_n : (k : Name) → is_listed n k ≡ false → is_some (option_or (find name_cmp k one.children) (find name_cmp k two.children)) ≡ false
  off_n k e = sym (ap is_some (g.children k)) ∙ e

  leads_one : (k : Name) → IsAtBoth one n k → LeadAlike In (child_of one k) (child_of n k)
  leads_one k (listed_both l u) = subst (LeadAlike In (child_of one k)) (child_n k)
      (one_listed R In same (find name_cmp k one.children) (find name_cmp k two.children) one.other (option_or one.other two.other) l)
  leads_one k (other_both off u t v) = subst (LeadAlike In (child_of one k)) (child_n k)
      (one_other R In same (find name_cmp k one.children) (find name_cmp k two.children) one.other two.other k (off_n k u) t)

  leads_two : (k : Name) → IsAtBoth two n k → LeadAlike In (child_of two k) (child_of n k)
  leads_two k (listed_both l u) = subst (LeadAlike In (child_of two k)) (child_n k)
      (two_listed R In same (find name_cmp k one.children) (find name_cmp k two.children) two.other (option_or one.other two.other) (c.agree.children k) l)
  leads_two k (other_both off u t v) = subst (LeadAlike In (child_of two k)) (child_n k)
      (two_other R In same (find name_cmp k one.children) (find name_cmp k two.children) one.other two.other k c.agree.others (off_n k u) t)

  -- ---- the trees

  module _ (t : Tree) where
    abbrev F : Shape → Type 0
    F a = Fits n a (names_of t)

    to_n : Any F (merged_shapes m one.shapes two.shapes) → Permits n (names_of t)
    to_n h = subst (Any F) (sym g.shapes) h

    from_n : Stands In n t → Any F (merged_shapes m one.shapes two.shapes)
    from_n h = subst (Any F) g.shapes h.permitted

    from_one : Stands In one t → Stands In n t
    from_one h = sitting_stands In one n sits_one leads_one t h
        (to_n (one_into n m listed_m (names_of t) one.shapes two.shapes (sitting_fits In one n sits_one leads_one t h))) (no_twins n t g.plain)

    from_two : Stands In two t → Stands In n t
    from_two h = sitting_stands In two n sits_two leads_two t h
        (to_n (two_into n m listed_m (names_of t) one.shapes two.shapes (sitting_fits In two n sits_two leads_two t h))) (no_twins n t g.plain)

    side : Stands In n t → (x : Option Tree) → below m t ≡ x → Side m (Stands In n) (Stands In one) (Stands In two) t
    side h (Some x) e = with_it e (stands_sitting In one n sits_one leads_one t h
        (one_from n m listed_m (names_of t) one.shapes two.shapes (has_below t m x e) c.required c.absent (from_n h)) (no_twins one t c.plain_one))
    side h None e = without_it e (stands_sitting In two n sits_two leads_two t h
        (two_from n m listed_m (names_of t) one.shapes two.shapes (below_none t m e) c.required (from_n h)) (no_twins two t c.plain_two))

  pub merge_set : IsBranched m (Stands In n) (Stands In one) (Stands In two)
  merge_set = record {
    side = λ t h. side t h (below m t) refl;
    one = from_one;
    two = from_two;
    one_has = λ t h. required_there In one m t h c.required;
    two_lacks = λ t h. absent_there In two m t h c.absent c.lists;
  }

  -- ---- its shapes

  pub merged_well : All (IsWellFormedShape n) n.shapes
  merged_well = subst (All (IsWellFormedShape n)) (sym g.shapes)
      (All-append (IsWellFormedShape n) (merged_first m one.shapes two.shapes) (merged_rest m one.shapes two.shapes)
      (All-map (IsWellFormedShape n) (λ a. cond (list_any (differs_in m a) two.shapes) (loosened m a) a) one.shapes
      (All-weaker (IsWellFormedShape one) (λ a. IsWellFormedShape n (cond (list_any (differs_in m a) two.shapes) (loosened m a) a)) first one.shapes well_one))
      (All-filter (λ b. not (list_any (λ a. differs_in m a b) one.shapes)) (IsWellFormedShape n) two.shapes
      (All-weaker (IsWellFormedShape two) (IsWellFormedShape n) (λ b w. well_at two n b up_two (λ e. (no_other e).1) w) two.shapes well_two)))
    where
      first : (a : Shape) → IsWellFormedShape one a → IsWellFormedShape n (cond (list_any (differs_in m a) two.shapes) (loosened m a) a)
      first a w = cond_both (list_any (differs_in m a) two.shapes) (loosened m a) a (IsWellFormedShape n)
          (λ e. well_but m one n a (loosened m a) (but_loosened m a) (λ k d l. up_one k l) (λ e. (no_other e).0) (λ h. listed_m)
          (λ r. absurd (true≢false (sym r ∙ remove_gone m a.required))) w)
          (λ e. well_at one n a up_one (λ e. (no_other e).0) w)

  pub merged_some : 0 < length n.shapes
  merged_some = subst (λ xs. 0 < length xs) (sym g.shapes) (go one.shapes two.shapes some)
    where
      go : (xs ys : List Shape) → 0 < length xs → 0 < length (merged_shapes m xs ys)
      go [] ys lt = absurd (omega arith)
      go (a ∷ xs) ys lt = omega arith
