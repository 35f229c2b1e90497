-- The trees of a value node are the values of its class, and that of an empty node is the empty tree.
use Rattle.std.proofs.Common.{◌≡◌, suc, ◌+◌, ◌≤◌, ◌<◌, Bool, true, false, not, cond, is_some, List, [], ◌∷◌, length, map, get_or, Some, None, IsTrue, IsSomeAnd, All, count_by, refl, sym, ap, subst, ◌∙◌, arith}
use Rattle.std.proofs.lemmas.Bool.{true≢false}
use Rattle.std.proofs.lemmas.Option.{none-some, same_Some}
use Rattle.std.proofs.lemmas.List.Elements.{Contains-get_or}
use Rattle.std.proofs.lemmas.List.Recursion.{is_count_by}
use Rattle.std.specs.Option.{option_map, option_or}
use Rattle.std.specs.FinMap.{find}
use Rattle.std.specs.FinSet.{contains, contains-from_list}
use Rattle.hm_tree.specs.declared.class.Class.{Class}
use Rattle.hm_tree.specs.Classes.{IsInClass}
use Rattle.hm_tree.specs.Names.{Name, name_cmp}
use Rattle.hm_tree.specs.Nodes.{Tree, edges, empty}
use Rattle.hm_tree.specs.NodeLaws.{edges_empty}
use Rattle.hm_tree.proofs.Sorted.{name_total}
use Rattle.hm_tree.proofs.NameSets.{tied_one, tied_self}
use Rattle.hm_schema.specs.declared.node.Shape.{Shape}
use Rattle.hm_schema.specs.Values.{NodeOver, is_listed, child_of}
use Rattle.hm_schema.specs.Permitted.{Fits, Takes, IsWithin, names_of, unlisted}
use Rattle.hm_schema.specs.WellFormed.{IsWellFormedShape}
use Rattle.hm_schema.proofs.NamesOf.{ascending-names_of, len-retain_names}
use Rattle.hm_tree_parts.specs.Edges.{IsEdge, names}
use Rattle.hm_tree_parts.proofs.OneEdge.{below-edge}
use Rattle.hm_tree_parts.proofs.OneList.{below-nil, nil_one}
use Rattle.hm_schema.specs.OneName.{is}
use Rattle.hm_schema.proofs.OneName.{in_alone}
use Rattle.hm_schema.specs.Shapes.{RequiresTwin, RequiresTwins}
use Rattle.hm_schema.specs.Standing.{IsBelow, Stands, Alike}
use Rattle.hm_schema_lists.specs.Plain.{IsOf}
use Rattle.hm_schema_lists.specs.ListNodes.{no_names, empty_shape}
use Rattle.hm_schema_lists.specs.Values.{value_shape, IsValueNode, IsEmptyNode}
use Rattle.hm_schema.proofs.Elements.{any_of, any_some}
use Rattle.hm_schema_lists.proofs.ListTrees.{nil_names, names_nil}
use Rattle.hm_schema_lists.proofs.Plain.{exact_all, exact_stands, stands_exact, edge_names}
use Rattle.hm_schema.proofs.Reshaped.{no_twins}

-- where shapes require nothing there are no twins
pub unrequired_plain : {I : Type 0} (n : NodeOver I) → All (λ a. a.required ≡ no_names) n.shapes → 0 < length n.shapes → RequiresTwins n → n.twins ≡ []
unrequired_plain n none some own = go n.twins (own 0 empty_shape some)
  where
    go : (ts : List (Name × Name)) → All (RequiresTwin (get_or n.shapes 0 empty_shape)) ts → ts ≡ []
    go [] all = refl
    go (t ∷ ts) all =
        let one : IsTrue (contains (get_or n.shapes 0 empty_shape).required t.0) = (all 0 t (omega arith)).one in
        absurd (true≢false (sym one ∙ ap (λ s. contains s t.0) (none 0 empty_shape some) ∙ contains-from_list name_total [] t.0))

-- ---- the empty tree

module _ {I : Type 0} (In : I → Tree → Type 0) (n : NodeOver I) (h : IsEmptyNode n) (some : 0 < length n.shapes)
    (well : All (IsWellFormedShape n) n.shapes) (own : RequiresTwins n) where
  empty_of : IsOf no_names n
  empty_of = exact_all n no_names h some well (unrequired_plain n (λ i d lt. ap (λ (a : Shape). a.required) (h i d lt)) some own)

  pub empty_alike : Alike (Stands In n) (λ t. t ≡ empty)
  empty_alike = record {
    into = λ t s. nil_one t empty (names_nil t (stands_exact In n no_names empty_of t s)) edges_empty;
    from = λ t e. subst (Stands In n) (sym e) (exact_stands In n no_names empty_of empty (nil_names empty edges_empty) (λ k x at. absurd (none-some x (sym (below-nil empty edges_empty k) ∙ at))));
  }

-- ---- values

module _ {I : Type 0} (In : I → Tree → Type 0) (c : Class) (i : I) (n : NodeOver I) (v : IsValueNode c i n) where
  off : (k : Name) → is_listed n k ≡ false
  off k = ap (λ cs. is_some (find name_cmp k cs)) v.unlisted

  count_all : (ks : List Name) → count_by (λ k. not (is_listed n k)) ks ≡ length ks
  count_all ks = sym (is_count_by length (λ k. not (is_listed n k)) refl
      (λ k ks. let more : length (k ∷ ks) ≡ 1 + length ks = omega arith in
      more ∙ sym (ap (λ b. cond (not b) (1 + length ks) (length ks)) (off k))) ks)

  number : (t : Tree) → unlisted n (names_of t) ≡ length (names t)
  number t = len-retain_names (λ k. not (is_listed n k)) (names_of t) ∙ ap (count_by (λ k. not (is_listed n k))) (ascending-names_of t) ∙ count_all (names t)

  leads : (k : Name) → child_of n k ≡ Some i
  leads k = ap (λ cs. option_or (find name_cmp k cs) (option_map (λ o. o.1) n.other)) v.unlisted ∙ ap (option_map (λ o. o.1)) v.other

  -- a name of the class, to what stands at i
  pub value_stands : 0 < length n.shapes → n.twins ≡ [] → (k : Name) (x t : Tree) → IsEdge k x t → IsInClass c k → In i x → Stands In n t
  value_stands some plain k x t e h g = record {
    permitted = any_of (λ a. Fits n a (names_of t)) n.shapes (get_or n.shapes 0 value_shape) (Contains-get_or n.shapes 0 value_shape some)
        (subst (λ a. Fits n a (names_of t)) (sym (v.shapes 0 value_shape some)) fits);
    twins = no_twins n t plain;
    children = λ j y at. go j y (is k j) refl (sym (ap (find name_cmp j) e) ∙ at);
  }
    where
      takes : (j : Name) → is k j ≡ true → Takes n j
      takes j f = subst (λ o. IsSomeAnd o (λ o. IsInClass o.0 j)) (sym v.other) (subst (IsInClass c) (sym (tied_one j k f)) h)

      fits : Fits n value_shape (names_of t)
      fits = record {
        listed = record {
          required = λ j r. absurd (true≢false (sym r ∙ contains-from_list name_total [] j));
          allowed = λ j at l. absurd (true≢false (sym l ∙ off j));
        };
        others = λ j at f. takes j (sym (in_alone k j) ∙ sym (ap (λ s. contains s j) (edge_names k t x e)) ∙ at);
        number = subst (IsWithin value_shape) (sym (number t ∙ ap (λ es. length (map (λ (e : Name × Tree). e.0) es)) e))
            (record { least = omega arith; most = omega arith });
      }

      go : (j : Name) (y : Tree) (b : Bool) → is k j ≡ b → cond b (Some x) None ≡ Some y → IsBelow In n j y
      go j y true f at = record { child = i; is = leads j; inside = subst (In i) (same_Some x y at) g }
      go j y false f at = absurd (none-some y at)

  pub record IsValueOf (t : Tree) : Type 0 where
    pub name : Name
    pub tree : Tree
    pub is : IsEdge name tree t
    pub in_class : IsInClass c name
    pub inside : In i tree

  -- and each tree there is such
  pub stands_value : (t : Tree) → Stands In n t → IsValueOf t
  stands_value t s = any_some (λ a. Fits n a (names_of t)) (λ a. a ≡ value_shape) (λ a e f. go (edges t) refl (subst (λ a. Fits n a (names_of t)) e f))
      n.shapes v.shapes s.permitted
    where
      one : (k : Name) (x : Tree) → IsEdge k x t → Fits n value_shape (names_of t) → IsValueOf t
      one k x e f =
          let b = s.children k x (below-edge k x t e) in
          let there : contains (names_of t) k ≡ true = ap (λ s. contains s k) (edge_names k t x e) ∙ in_alone k k ∙ tied_self k in
          record {
            name = k;
            tree = x;
            is = e;
            in_class = subst (λ o. IsSomeAnd o (λ o. IsInClass o.0 k)) v.other (f.others k there (off k));
            inside = subst (λ i. In i x) (same_Some b.child i (sym b.is ∙ leads k)) b.inside;
          }

      go : (es : List (Name × Tree)) → edges t ≡ es → Fits n value_shape (names_of t) → IsValueOf t
      go [] e f = let none : 1 ≤ 0 = subst (λ u. 1 ≤ u) (number t ∙ ap (λ es. length (map (λ (e : Name × Tree). e.0) es)) e) f.number.least in absurd (omega arith)
      go (e ∷ []) g f = one e.0 e.1 g f
      go (e ∷ d ∷ es) g f =
          let many : suc (suc (length (map (λ (e : Name × Tree). e.0) es))) ≤ 1 =
          subst (λ u. u ≤ 1) (number t ∙ ap (λ es. length (map (λ (e : Name × Tree). e.0) es)) g) f.number.most in
          absurd (omega arith)
