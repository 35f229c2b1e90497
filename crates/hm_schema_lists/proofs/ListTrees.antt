-- The trees of no names, and of *h and *t: an empty list, and an item with the rest of a list.
use Rattle.std.proofs.Common.{◌≡◌, ◌⊎◌, Bool, true, false, cond, ◌||◌, IsTrue, [], ◌∷◌, map, Some, None, refl, sym, ap, subst, ◌∙◌, inl, inr}
use Rattle.std.proofs.lemmas.Bool.{true≢false, or_left, or_right, or_from}
use Rattle.std.proofs.lemmas.Option.{same_Some, none-some}
use Rattle.std.specs.Ordering.{eq_by_cmp}
use Rattle.std.specs.FinMap.{find}
use Rattle.std.specs.FinSet.{contains, from_list, contains-from_list}
use Rattle.hm_tree.specs.Names.{Name, name_cmp}
use Rattle.hm_tree.specs.Nodes.{Tree, below}
use Rattle.hm_tree.proofs.Sorted.{name_total}
use Rattle.hm_tree.proofs.NameSets.{tied_one, tied_self}
use Rattle.hm_schema.specs.Permitted.{names_of}
use Rattle.hm_schema.proofs.NamesOf.{names_of-below}
use Rattle.hm_tree_parts.specs.Lists.{head, tail, IsNil, IsItem}
use Rattle.hm_tree_parts.proofs.Maps.{same_children}
use Rattle.hm_facts.proofs.Options.{is_there}
use Rattle.hm_tree_parts.proofs.OneList.{below-nil}
use Rattle.hm_tree_parts.proofs.OneList.{some_nil, some_item}
use Rattle.hm_schema_lists.specs.ListNodes.{no_names, item_names}
use Rattle.hm_schema.proofs.StandingTrees.{none_below}

module _ (t : Tree) where
  -- ---- the empty list

  pub nil_names : IsNil t → names_of t ≡ no_names
  nil_names e = ap (λ es. from_list (map (λ (e : Name × Tree). e.0) es)) e

  pub names_nil : names_of t ≡ no_names → IsNil t
  names_nil e =
      let u = some_nil in
      subst IsNil (same_children u.0 t (λ k. below-nil u.0 u.1 k ∙ sym (none_below t k (off k)))) u.1
    where
      off : (k : Name) → IsTrue (contains (names_of t) k) → ⊥
      off k at = true≢false (sym at ∙ ap (λ s. contains s k) e ∙ contains-from_list name_total [] k)

  -- ---- an item with the rest

  pub item_named : (x r : Tree) → IsItem x r t → names_of t ≡ item_names
  item_named x r e = ap (λ es. from_list (map (λ (e : Name × Tree). e.0) es)) e

  -- what stands below a name of it
  below_item : (x r : Tree) → IsItem x r t → (k : Name)
      → below k t ≡ cond (eq_by_cmp name_cmp k head) (Some x) (cond (eq_by_cmp name_cmp k tail) (Some r) None)
  below_item x r e k = ap (find name_cmp k) e

  pub name_of : (x r : Tree) → IsItem x r t → (k : Name) (y : Tree) → below k t ≡ Some y → ((k ≡ head) × (x ≡ y)) ⊎ ((k ≡ tail) × (r ≡ y))
  name_of x r e k y at = go (eq_by_cmp name_cmp k head) refl (eq_by_cmp name_cmp k tail) refl (sym (below_item x r e k) ∙ at)
    where
      go : (p : Bool) → eq_by_cmp name_cmp k head ≡ p → (q : Bool) → eq_by_cmp name_cmp k tail ≡ q
          → cond p (Some x) (cond q (Some r) None) ≡ Some y → ((k ≡ head) × (x ≡ y)) ⊎ ((k ≡ tail) × (r ≡ y))
      go true e q f h = inl (tied_one k head e, same_Some x y h)
      go false e true f h = inr (tied_one k tail f, same_Some r y h)
      go false e false f h = absurd (none-some y h)

module _ (t : Tree) (e : names_of t ≡ item_names) where
  has : (k : Name) → contains (names_of t) k ≡ (eq_by_cmp name_cmp k head || (eq_by_cmp name_cmp k tail || false))
  has k = ap (λ s. contains s k) e ∙ contains-from_list name_total (head ∷ tail ∷ []) k

  pub item_first : (x : Tree) × (below head t ≡ Some x)
  item_first = is_there (below head t) (sym (names_of-below t head) ∙ has head
      ∙ or_left (eq_by_cmp name_cmp head head) (eq_by_cmp name_cmp head tail || false) (tied_self head))

  pub item_rest : (r : Tree) × (below tail t ≡ Some r)
  item_rest = is_there (below tail t) (sym (names_of-below t tail) ∙ has tail
      ∙ or_right (eq_by_cmp name_cmp tail head) (eq_by_cmp name_cmp tail tail || false)
      (or_left (eq_by_cmp name_cmp tail tail) false (tied_self tail)))

  pub names_item : IsItem item_first.0 item_rest.0 t
  names_item =
      let u = some_item item_first.0 item_rest.0 in
      subst (IsItem item_first.0 item_rest.0) (same_children u.0 t (λ k. below_item u.0 item_first.0 item_rest.0 u.1 k
      ∙ go k (eq_by_cmp name_cmp k head) refl (eq_by_cmp name_cmp k tail) refl)) u.1
    where
      go : (k : Name) (p : Bool) → eq_by_cmp name_cmp k head ≡ p → (q : Bool) → eq_by_cmp name_cmp k tail ≡ q
          → cond p (Some item_first.0) (cond q (Some item_rest.0) None) ≡ below k t
      go k true p q f = sym (ap (λ k. below k t) (tied_one k head p) ∙ item_first.1)
      go k false p true f = sym (ap (λ k. below k t) (tied_one k tail f) ∙ item_rest.1)
      go k false p false f = sym (none_below t k (λ at. true≢false (sym at ∙ has k
          ∙ or_from (eq_by_cmp name_cmp k head) (eq_by_cmp name_cmp k tail || false) p (or_from (eq_by_cmp name_cmp k tail) false f refl))))
