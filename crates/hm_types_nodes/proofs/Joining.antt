-- Which trees stand at the view of a fork: those whose parts stand at the views of its two lenses.
use Rattle.std.proofs.Common.{◌≡◌, Bool, true, false, cond, not, IsTrue, is_some, Option, Some, None, All, Any, Contains, refl, sym, ap, subst, ◌∙◌}
use Rattle.std.proofs.lemmas.Bool.{true≢false, not-true, not-false}
use Rattle.std.proofs.lemmas.List.Elements.{All-append, All-contains}
use Rattle.std.specs.Option.{option_or, option_map}
use Rattle.std.specs.FinMap.{find}
use Rattle.std.specs.FinSet.{contains, retain}
use Rattle.hm_tree.specs.declared.class.Class.{Class}
use Rattle.hm_tree.specs.Names.{Name, name_cmp}
use Rattle.hm_tree.specs.Nodes.{Tree, below}
use Rattle.hm_tree.specs.Parts.{part}
use Rattle.hm_schema.specs.declared.node.Shape.{Shape}
use Rattle.hm_schema.specs.Values.{Names, NodeOver, is_listed, child_of}
use Rattle.hm_schema.specs.Permitted.{Fits, Permits, names_of}
use Rattle.hm_schema.specs.WellFormed.{IsWellFormedShape}
use Rattle.hm_tree_parts.specs.Sets.{IsSplitSet}
use Rattle.hm_schema.specs.Shapes.{RequiresTwin, RequiresTwins}
use Rattle.hm_schema.specs.Standing.{IsBelow, HasTwin, Stands}
use Rattle.hm_types_nodes.specs.Parting.{Parts, listed, shut}
use Rattle.hm_types_nodes.specs.Joining.{joined_shape, CanJoin, IsJoined}
use Rattle.hm_schema.proofs.Elements.{any_of, all_left, all_right, any_all, any_some}
use Rattle.hm_schema.proofs.Shapes.{required_has, all_listed}
use Rattle.hm_schema.proofs.StandingTrees.{has_below, none_below, in_part, to_part, names-part, twin_part, part_twin, below_as}
use Rattle.hm_types_nodes.proofs.JoinedShapes.{joined_from, joined_to, IsFirst, IsSecond, joined_parts, parts_joined}

module _ {I : Type 0} (q : Name → Bool) (one two n : NodeOver I) (c : CanJoin q one two) (j : IsJoined q one two n)
    (well : All (IsWellFormedShape one) one.shapes) (own_one : RequiresTwins one) (own_two : RequiresTwins two) where
  abbrev rest : Name → Bool
  rest k = not (q k)

  firsts : All (IsFirst q one) one.shapes
  firsts i d lt = record { well = well i d lt; shut = c.shut i d lt; inside = c.inside i d lt }

  seconds : All (IsSecond q two) two.shapes
  seconds i d lt = record { outside = c.outside i d lt; parts = c.parts i d lt }

  -- the shapes of the two views that a set of names fits
  record Fitting (names : Names) : Type 0 where
    a : Shape
    b : Shape
    a_in : Contains one.shapes a
    b_in : Contains two.shapes b
    first : Fits one a (retain names q)
    second : Fits two b (retain names rest)

  fitting : (names : Names) → Permits n names → Fitting names
  fitting names h =
      let x = joined_from (λ s. Fits n s names) one.shapes two.shapes (subst (Any (λ s. Fits n s names)) j.shapes h) in
      let y = x.4 in
      let a_in : Contains one.shapes x.1 = (x.0, x.2, x.3) in
      let b_in : Contains two.shapes y.1 = (y.0, y.2, y.3) in
      let f = joined_parts q one two n j names x.1 y.1 (All-contains (IsFirst q one) one.shapes x.1 firsts a_in)
      (All-contains (IsSecond q two) two.shapes y.1 seconds b_in) y.4 in
      record { a = x.1; b = y.1; a_in = a_in; b_in = b_in; first = f.0; second = f.1 }

  permitted : (names : Names) → Permits one (retain names q) → Permits two (retain names rest) → Permits n names
  permitted names f g = subst (Any (λ s. Fits n s names)) (sym j.shapes) (joined_to (λ s. Fits n s names) one.shapes two.shapes
      (any_all (λ a. Fits one a (retain names q)) (IsFirst q one) (λ a. Any (λ b. Fits n (joined_shape a b) names) two.shapes)
      (λ a fa x. any_all (λ b. Fits two b (retain names rest)) (IsSecond q two) (λ b. Fits n (joined_shape a b) names)
      (λ b fb y. parts_joined q one two n j names a b fa fb x y) two.shapes seconds g) one.shapes firsts f))

  -- the names of twins of a view are names of each of its shapes
  first_pass : (a : Shape) → Contains one.shapes a → All (λ (w : Name × Name). IsTrue (q w.0) × IsTrue (q w.1)) one.twins
  first_pass a at i d lt =
      let r = All-contains (λ a. All (RequiresTwin a) one.twins) one.shapes a own_one at i d lt in
      let f = All-contains (IsFirst q one) one.shapes a firsts at in
      (f.inside _ (required_has a _ r.one), f.inside _ (required_has a _ r.two))

  second_pass : (b : Shape) → Contains two.shapes b → All (λ (w : Name × Name). IsTrue (rest w.0) × IsTrue (rest w.1)) two.twins
  second_pass b at i d lt =
      let r = All-contains (λ a. All (RequiresTwin a) two.twins) two.shapes b own_two at i d lt in
      let f = All-contains (IsSecond q two) two.shapes b seconds at in
      (f.outside _ (required_has b _ r.one), f.outside _ (required_has b _ r.two))

  -- ---- where the names of the view lead
  child_in : (k : Name) → IsTrue (q k) → IsTrue (is_listed one k) → child_of n k ≡ child_of one k
  child_in k e l = ap (λ x. option_or x (option_map (λ (o : Class × I). o.1) n.other))
      (j.children k ∙ ap (λ b. option_or (cond b (find name_cmp k one.children) None) (find name_cmp k two.children)) e)
      ∙ go (find name_cmp k one.children) l
    where
      go : (x : Option I) → is_some x ≡ true → option_or (option_or x (find name_cmp k two.children)) (option_map (λ (o : Class × I). o.1) n.other)
          ≡ option_or x (option_map (λ (o : Class × I). o.1) one.other)
      go None h = absurd (true≢false (sym h))
      go (Some x) h = refl

  child_out : (k : Name) → q k ≡ false → child_of n k ≡ child_of two k
  child_out k e = ap (λ x. option_or x (option_map (λ (o : Class × I). o.1) n.other))
      (j.children k ∙ ap (λ b. option_or (cond b (find name_cmp k one.children) None) (find name_cmp k two.children)) e)
      ∙ ap (λ o. option_or (find name_cmp k two.children) (option_map (λ (o : Class × I). o.1) o)) j.other

  -- a name at the first view is listed there and passes, and none at the second does
  first_only : (names : Names) → Permits one names → (k : Name) → IsTrue (contains names k) → IsTrue (is_listed one k) × IsTrue (q k)
  first_only names h k at = any_some (λ a. Fits one a names) (IsFirst q one)
      (λ a fa f. let l = all_listed one names a fa.shut f k at in (l, fa.inside k (f.listed.allowed k at l))) one.shapes firsts h

  second_none : (names : Names) → Permits two names → (k : Name) → IsTrue (contains names k) → IsTrue (q k) → ⊥
  second_none names h k at e = any_some (λ b. Fits two b names) (IsSecond q two)
      (λ b fb f. true≢false (sym (fb.outside k (f.listed.allowed k at (there b f fb.parts))) ∙ ap not e)) two.shapes seconds h
    where
      there : (b : Shape) → Fits two b names → Parts two b q → IsTrue (is_listed two k)
      there b f (listed all) = all k e
      there b f (shut s) = all_listed two names b s f k at

  -- ---- the trees
  module _ (In : I → Tree → Type 0) where
    inside : (t : Tree) → Stands In n t → Stands In one (part q t)
    inside t h =
        let f = fitting (names_of t) h.permitted in
        let p = subst (Permits one) (sym (names-part q t)) (any_of (λ a. Fits one a (retain (names_of t) q)) one.shapes f.a f.a_in f.first) in
        record {
          permitted = p;
          twins = λ i d lt. let pass = first_pass f.a f.a_in i d lt in
              twin_part q t _ _ pass.0 pass.1 (all_left (HasTwin t) one.twins two.twins (subst (All (HasTwin t)) j.twins h.twins) i d lt);
          children = λ k x at.
              let l = first_only (names_of (part q t)) p k (has_below (part q t) k x at) in
              below_as In n one k x (child_in k l.1 l.0) (h.children k x (in_part q t k x at).1);
        }

    outside : (t : Tree) → Stands In n t → Stands In two (part rest t)
    outside t h =
        let f = fitting (names_of t) h.permitted in
        record {
          permitted = subst (Permits two) (sym (names-part rest t)) (any_of (λ b. Fits two b (retain (names_of t) rest)) two.shapes f.b f.b_in f.second);
          twins = λ i d lt. let pass = second_pass f.b f.b_in i d lt in
              twin_part rest t _ _ pass.0 pass.1 (all_right (HasTwin t) one.twins two.twins (subst (All (HasTwin t)) j.twins h.twins) i d lt);
          children = λ k x at.
              let l = in_part rest t k x at in
              below_as In n two k x (child_out k (not-true (q k) l.0)) (h.children k x l.1);
        }

    whole : (t : Tree) → Stands In one (part q t) → Stands In two (part rest t) → Stands In n t
    whole t f g = record {
      permitted = permitted (names_of t) (subst (Permits one) (names-part q t) f.permitted) (subst (Permits two) (names-part rest t) g.permitted);
      twins = subst (All (HasTwin t)) (sym j.twins) (All-append (HasTwin t) one.twins two.twins
          (λ i d lt. part_twin q t _ _ (f.twins i d lt)) (λ i d lt. part_twin rest t _ _ (g.twins i d lt)));
      children = λ k x at. child k x at (q k) refl;
    }
      where
        child : (k : Name) (x : Tree) → below k t ≡ Some x → (b : Bool) → q k ≡ b → IsBelow In n k x
        child k x at true e =
            let low = to_part q t k x e at in
            below_as In one n k x (sym (child_in k e (first_only (names_of (part q t)) f.permitted k (has_below (part q t) k x low)).0)) (f.children k x low)
        child k x at false e = below_as In two n k x (sym (child_out k e)) (g.children k x (to_part rest t k x (ap not e) at))

    -- the trees that stand at the view are those whose parts stand at the two views
    pub join_set : IsSplitSet q (Stands In n) (Stands In one) (Stands In two)
    join_set = record {
      inside = inside;
      outside = outside;
      whole = whole;
      in_one = λ t h k e. none_below t k (λ there. true≢false (sym (first_only (names_of t) h.permitted k there).1 ∙ e));
      in_two = λ t h k e. none_below t k (λ there. second_none (names_of t) h.permitted k there (not-false (q k) e));
    }
