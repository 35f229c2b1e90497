-- A node that is written is well formed.
use Rattle.std.proofs.Common.{◌≡◌, ◌⊎◌, ℕ, zero, suc, ◌<◌, ◌≤◌, ◌||◌, Bool, true, false, cond, T, IsTrue, is_some, List, [], ◌∷◌, length, map, filter, get_or, Option, Some, None, IfSome, All, Contains, inl, inr, refl, sym, ap, subst, ◌∙◌, arith}
use mathlib.Core.Bool.{true≢false}
use Rattle.std.specs.Option.{option_map}
use Rattle.std.specs.List.{list_any}
use Rattle.std.specs.FinSet.{contains}
use Rattle.std.specs.FinMap.{find, is_sorted}
use Rattle.std.specs.FinMap.Entries.{find-where_key, is_sorted-where_key}
use Rattle.std.proofs.lemmas.List.Elements.{All-nil, All-cons, All-head, All-tail, All-map, All-contains, Contains-get_or}
use Rattle.hm_graph.proofs.Pairs.{all_left, all_right}
use Rattle.hm_tree.specs.declared.class.Class.{Class}
use Rattle.hm_tree.specs.Names.{Name, name_cmp}
use Rattle.hm_tree.specs.NameLaws.{name_one}
use Rattle.hm_schema.specs.declared.node.NodeId.{NodeId}
use Rattle.hm_schema.specs.declared.node.Shape.{Shape}
use Rattle.hm_schema.specs.Values.{NodeValue, is_listed}
use Rattle.hm_schema.specs.WellFormed.{IsWellFormedNode, IsWellFormedShape}
use Rattle.hm_schema.specs.Tidied.{has_name, lets_in, lets_some_in, stands, tidied}
use Rattle.hm_schema.specs.Shapes.{RequiresTwins, RequiresTwin}
use Rattle.hm_types_rules.specs.Numbering.{IsDistinct, none_left, repeated, new}
use Rattle.hm_types_forms.proofs.Nodes.{listed_over, sorted_over}
use Rattle.hm_types_schemas.specs.Ends.{other_ends, ends}
use Rattle.hm_types_schemas.specs.Writing.{IsWritten}
use Rattle.hm_schema.proofs.Tidied.{not_positive}

-- ---- lists without repeats

module _ {X : Type 0} where
  in_rest : (z : X) (xs : List X) (y : X) → Contains xs y → Contains (z ∷ xs) y
  in_rest z xs y (i, lt, e) = (suc i, omega arith, e)

  head_or_rest : (z : X) (xs : List X) (y : X) → Contains (z ∷ xs) y → (z ≡ y) ⊎ Contains xs y
  head_or_rest z xs y (zero, lt, e) = inl e
  head_or_rest z xs y (suc i, lt, e) = inr (i, omega arith, e)

  distinct_from : {seen xs ys : List X} → IsDistinct seen xs ys → (y : X) → Contains ys y → Contains xs y
  distinct_from none_left y c = c
  distinct_from (repeated {x = x} {xs = xs} d h) y c = in_rest x xs y (distinct_from h y c)
  distinct_from (new {x = x} {xs = xs} {ys = ys} n h) y c = elim (head_or_rest x ys y c) [
    | inl e ↦ (0, omega arith, e)
    | inr i ↦ in_rest x xs y (distinct_from h y i)
  ]

  some_distinct : {xs ys : List X} → IsDistinct [] xs ys → 0 < length xs → 0 < length ys
  some_distinct none_left lt = lt
  some_distinct (repeated (i, at, e) h) lt = absurd (omega arith)
  some_distinct (new n h) lt = omega arith

  pub all_unmapped : {Y : Type 0} (P : Y → Type 0) (f : X → Y) (xs : List X) → All P (map f xs) → All (λ x. P (f x)) xs
  all_unmapped P f [] h = All-nil (λ x. P (f x))
  all_unmapped P f (x ∷ xs) h = All-cons (λ x. P (f x)) x xs (All-head P (f x) (map f xs) h) (all_unmapped P f xs (All-tail P (f x) (map f xs) h))

  all_elements : (P : X → Type 0) (xs : List X) → ((x : X) → Contains xs x → P x) → All P xs
  all_elements P xs f i d lt = f (get_or xs i d) (Contains-get_or xs i d lt)

-- ---- a tidied node

module _ (count : ℕ) (n : NodeValue) (w : IsWellFormedNode count n) where
  sorted_tidied : T (is_sorted name_cmp (tidied n).children)
  sorted_tidied = go (lets_some_in n)
    where
      go : (b : Bool) → T (is_sorted name_cmp (cond b n.children (filter (λ c. stands n c.0) n.children)))
      go true = w.ascending
      go false = is_sorted-where_key name_cmp (stands n) n.children w.ascending

  standing : (a : Shape) (k : Name) → Contains n.shapes a → IsTrue (has_name a k) → stands n k ≡ true
  standing a k at h = any_true (λ a. has_name a k) n.shapes a at h
    where
      any_true : (p : Shape → Bool) (xs : List Shape) (x : Shape) → Contains xs x → p x ≡ true → list_any p xs ≡ true
      any_true p [] x (i, lt, e) t = absurd (omega arith)
      any_true p (y ∷ xs) x (zero, lt, e) t = ap (λ b. b || list_any p xs) (ap p e ∙ t)
      any_true p (y ∷ xs) x (suc i, lt, e) t = ap (λ b. p y || b) (any_true p xs x (i, omega arith, e) t) ∙ or_true (p y)
        where
          or_true : (b : Bool) → b || true ≡ true
          or_true true = refl
          or_true false = refl

  listed_tidied : (k : Name) → stands n k ≡ true → IsTrue (is_listed n k) → IsTrue (is_listed (tidied n) k)
  listed_tidied k s l = go (lets_some_in n)
    where
      go : (b : Bool) → is_some (find name_cmp k (cond b n.children (filter (λ c. stands n c.0) n.children))) ≡ true
      go true = l
      go false =
          ap is_some (find-where_key name_cmp (stands n) k (λ x tied. sym (ap (stands n) (name_one k x tied))) n.children
          ∙ ap (λ b. cond b (find name_cmp k n.children) None) s) ∙ l

  -- where it leads nowhere by other names, its shapes let none in
  shut_tidied : (a : Shape) → Contains n.shapes a → (tidied n).other ≡ None → (a.least ≡ 0) × (a.most ≡ Some 0)
  shut_tidied a at e = go (lets_some_in n) refl e
    where
      well : IsWellFormedShape n a
      well = All-contains (IsWellFormedShape n) n.shapes a w.shapes at

      shut : (b : Bool) → lets_in a ≡ b → lets_some_in n ≡ false → lets_in a ≡ false
      shut false f g = f
      shut true f g = absurd (true≢false (sym (some_in n.shapes a at f) ∙ g))
        where
          some_in : (xs : List Shape) (x : Shape) → Contains xs x → lets_in x ≡ true → list_any lets_in xs ≡ true
          some_in [] x (i, lt, e) t = absurd (omega arith)
          some_in (y ∷ xs) x (zero, lt, e) t = ap (λ b. b || list_any lets_in xs) (ap lets_in e ∙ t)
          some_in (y ∷ xs) x (suc i, lt, e) t = ap (λ b. lets_in y || b) (some_in xs x (i, omega arith, e) t) ∙ or_true (lets_in y)
            where
              or_true : (b : Bool) → b || true ≡ true
              or_true true = refl
              or_true false = refl

      go : (b : Bool) → lets_some_in n ≡ b → cond b n.other None ≡ None → (a.least ≡ 0) × (a.most ≡ Some 0)
      go true f g = well.none g
      go false f g =
          let most = not_positive a.most (shut (lets_in a) refl f) in
          let le : IfSome (Some 0) (λ (most : ℕ). a.least ≤ most) = subst (λ m. IfSome m (λ most. a.least ≤ most)) most well.ordered in
          (omega (arith, le), most)

  -- ---- the node that is written

  module _ (own : RequiresTwins n) (number : NodeId → NodeId) (v : NodeValue) (is : IsWritten number n v) (bound : ℕ)
      (inside : All (λ j. (number j).place < bound) (ends (tidied n))) where
    kept : (a : Shape) → Contains v.shapes a → Contains n.shapes a
    kept a c = distinct_from is.shapes a c

    listed : (k : Name) → stands n k ≡ true → IsTrue (is_listed n k) → IsTrue (is_listed v k)
    listed k s l = ap (λ (cs : List (Name × NodeId)). is_some (find name_cmp k cs)) is.children
        ∙ listed_over (λ s j. number j) (tidied n) k ∙ listed_tidied k s l

    has_listed : (a : Shape) (k : Name) → Contains n.shapes a → IsTrue (has_name a k) → IsTrue (is_listed v k)
    has_listed a k at h = listed k (standing a k at h) ((All-contains (IsWellFormedShape n) n.shapes a w.shapes at).listed k h)

    shape_well : (a : Shape) → Contains v.shapes a → IsWellFormedShape v a
    shape_well a c =
        let at = kept a c in
        let well = All-contains (IsWellFormedShape n) n.shapes a w.shapes at in
        record {
          listed = λ k h. has_listed a k at h;
          apart = well.apart;
          ordered = well.ordered;
          none = λ e. shut_tidied a at (back (tidied n).other (sym is.other ∙ e));
        }
      where
        back : (o : Option (Class × NodeId)) → option_map {U = Class × NodeId} (λ o. (o.0, number o.1)) o ≡ None → o ≡ None
        back None e = refl
        back (Some o) e = let f : ⊥ = cc in absurd f

    twin_listed : (t : Name × Name) → Contains n.twins t → IsTrue (is_listed v t.0) × IsTrue (is_listed v t.1)
    twin_listed t c = go n.shapes refl w.some_shape
      where
        names : (a : Shape) (k : Name) → IsTrue (contains a.required k) → IsTrue (has_name a k)
        names a k h = ap (λ b. b || contains a.optional k) h

        go : (shapes : List Shape) → n.shapes ≡ shapes → 0 < length shapes → IsTrue (is_listed v t.0) × IsTrue (is_listed v t.1)
        go [] e lt = absurd (omega arith)
        go (a ∷ shapes) e lt =
            let at : Contains n.shapes a = subst (λ l. Contains l a) (sym e) (0, lt, refl) in
            let r = All-contains (RequiresTwin a) n.twins t (All-contains (λ a. All (RequiresTwin a) n.twins) n.shapes a own at) c in
            (has_listed a t.0 at (names a t.0 r.one), has_listed a t.1 at (names a t.1 r.two))

    other_well : (o : Option (Class × NodeId)) → (tidied n).other ≡ o
        → IfSome (option_map {U = Class × NodeId} (λ o. (o.0, number o.1)) o) (λ o. o.1.place < bound)
    other_well None e = tt
    other_well (Some o) e =
        let Below : NodeId → Type 0 = λ j. (number j).place < bound in
        let all = all_right Below (map (λ (c : Name × NodeId). c.1) (tidied n).children) (other_ends (tidied n).other) inside in
        All-head Below o.1 [] (subst (λ o. All Below (other_ends o)) e all)

    pub written_well : IsWellFormedNode bound v
    written_well = record {
      ascending = subst (λ (cs : List (Name × NodeId)). T (is_sorted name_cmp cs)) (sym is.children)
          (sorted_over (λ s j. number j) (tidied n).children sorted_tidied);
      children = subst (All (λ (c : Name × NodeId). c.1.place < bound)) (sym is.children)
          (All-map (λ (c : Name × NodeId). c.1.place < bound) (λ (c : Name × NodeId). (c.0, number c.1)) (tidied n).children
          (all_unmapped (λ j. (number j).place < bound) (λ (c : Name × NodeId). c.1) (tidied n).children
          (all_left (λ j. (number j).place < bound) (map (λ (c : Name × NodeId). c.1) (tidied n).children) (other_ends (tidied n).other) inside)));
      other = subst (λ (o : Option (Class × NodeId)). IfSome o (λ o. o.1.place < bound)) (sym is.other) (other_well (tidied n).other refl);
      shapes = all_elements (IsWellFormedShape v) v.shapes shape_well;
      some_shape = some_distinct is.shapes w.some_shape;
      twins = subst (All (λ (t : Name × Name). IsTrue (is_listed v t.0) × IsTrue (is_listed v t.1))) (sym is.twins)
          (all_elements (λ (t : Name × Name). IsTrue (is_listed v t.0) × IsTrue (is_listed v t.1)) n.twins twin_listed);
    }
