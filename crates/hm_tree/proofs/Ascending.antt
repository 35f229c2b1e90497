-- The names of a set in ascending order: there is one such list.
use Rattle.std.proofs.Common.{◌≡◌, ℕ, true, false, cond, ◌||◌, T, IsTrue, is_some, List, [], ◌∷◌, map, Option, Some, None, All, slice_get, refl, sym, ap, subst, ◌∙◌}
use Rattle.std.specs.declared.cmp.Ordering.TheVariants.{Less}
use Rattle.std.specs.Ordering.{is_lt, is_eq}
use Rattle.std.specs.FinMap.{find, is_sorted}
use Rattle.std.specs.FinMap.Entries.{is_some-find, is_sorted-put, find-put, same_entries}
use Rattle.std.specs.FinSet as set
use Rattle.std.specs.List.{list_any, AllByRecursion}
use Rattle.std.specs.List.Sorted.{IsStrictlySortedBy}
use Rattle.std.proofs.lemmas.Bool.{true≢false}
use Rattle.std.proofs.lemmas.Cmp.{tied_itself}
use Rattle.std.proofs.lemmas.Map.Keys.{any_passes_from_place}
use Rattle.hm_tree.specs.Names.{Name, name_cmp}
use Rattle.hm_tree.specs.Nodes.{both, first, second, below_all}
use Rattle.hm_tree.specs.Sets.{placed, ascending}
use Rattle.hm_tree.proofs.Sorted.{name_total, name_one}
use Rattle.hm_tree.proofs.NameSets.{tied, at_any}

-- ---- each name of a list in its place

placed_sorted : (names : List Name) → T (is_sorted name_cmp (placed names))
placed_sorted [] = tt
placed_sorted (k ∷ names) = is_sorted-put name_cmp name_total k tt (placed names) (placed_sorted names)

placed_names : (q : Name) (names : List Name) → is_some (find name_cmp q (placed names)) ≡ list_any (tied q) names
placed_names q [] = refl
placed_names q (k ∷ names) =
    ap is_some (find-put name_cmp name_total q k tt (placed names))
    ∙ elim (tied q k) as (λ b. is_some (cond b (Some tt) (find name_cmp q (placed names))) ≡ (b || list_any (tied q) names))
    [ true ↦ refl | false ↦ placed_names q names ]

placed_set : (s : set.FinSet name_cmp) (q : Name) → is_some (find name_cmp q (placed (set.items s))) ≡ set.contains s q
placed_set s q = placed_names q (set.items s) ∙ sym (set.contains-items s q)

-- ---- the names of a set

pub set_of-ascending : (s : set.FinSet name_cmp) → set.from_list {R = name_cmp} (ascending s) ≡ s
unfolding ascending
set_of-ascending s = set.same_set name_total name_one _ _ (λ q.
    set.contains-from_list name_total (map (λ e. e.0) (placed (set.items s))) q ∙ sym (is_some-find name_cmp q (placed (set.items s)))
    ∙ placed_set s q)

-- the same beside nothing
abbrev pub beside : List Name → List (Name × Unit {0})
beside = map (λ k. (k, tt))

pub beside_names : (names : List Name) → map (λ (e : Name × Unit {0}). e.0) (beside names) ≡ names
beside_names [] = refl
beside_names (k ∷ names) = ap (λ l. k ∷ l) (beside_names names)

same_option : (x y : Option (Unit {0})) → is_some x ≡ is_some y → x ≡ y
same_option None None e = refl
same_option None (Some u) e = absurd (true≢false (sym e))
same_option (Some u) None e = absurd (true≢false e)
same_option (Some u) (Some v) e = refl

-- names that rise are those of their set
ascending_beside : (names : List Name) → T (is_sorted name_cmp (beside names)) → ascending (set.from_list {R = name_cmp} names) ≡ names
unfolding ascending
ascending_beside names h =
    let s = set.from_list {R = name_cmp} names in
    let same : placed (set.items s) ≡ beside names = same_entries name_cmp name_total name_one (placed (set.items s)) (beside names)
    (placed_sorted (set.items s)) h (λ q.
    same_option _ _ (placed_set s q ∙ set.contains-from_list name_total names q ∙ ap (list_any (tied q)) (sym (beside_names names))
    ∙ sym (is_some-find name_cmp q (beside names)))) in
    ap (map (λ (e : Name × Unit {0}). e.0)) same ∙ beside_names names

strictly : (names : List Name) → IsStrictlySortedBy name_cmp names → T (is_sorted name_cmp (beside names))
unfolding IsStrictlySortedBy
strictly [] h = tt
strictly (k ∷ names) h = both _ _ (lower names h.0) (strictly names h.1)
  where
    lower : (names : List Name) → AllByRecursion (λ y. name_cmp k y ≡ Less) names → T (below_all k (beside names))
    lower [] h = tt
    lower (y ∷ names) h = both _ _ (subst (λ r. T (is_lt r)) (sym h.0) tt) (lower names h.1)

ascending-from_list : (names : List Name) → IsStrictlySortedBy name_cmp names → ascending (set.from_list {R = name_cmp} names) ≡ names
ascending-from_list names h = ascending_beside names (strictly names h)

pub ascending_is : (names : List Name) (s : set.FinSet name_cmp) → IsStrictlySortedBy name_cmp names → set.from_list {R = name_cmp} names ≡ s
    → ascending s ≡ names
ascending_is names s h e = ap ascending (sym e) ∙ ascending-from_list names h

-- ---- the names of edges

module _ {X : Type 0} where
  edges_beside : (es : List (Name × X)) → T (is_sorted name_cmp es) → T (is_sorted name_cmp (beside (map (λ e. e.0) es)))
  edges_beside [] h = tt
  edges_beside (e ∷ es) h = both _ _ (lower es (first _ _ h)) (edges_beside es (second _ _ h))
    where
      lower : (es : List (Name × X)) → T (below_all e.0 es) → T (below_all e.0 (beside (map (λ e. e.0) es)))
      lower [] h = tt
      lower (d ∷ es) h = both _ _ (first _ _ h) (lower es (second _ _ h))

  pub ascending-edges : (es : List (Name × X)) → T (is_sorted name_cmp es)
      → ascending (set.from_list {R = name_cmp} (map (λ e. e.0) es)) ≡ map (λ e. e.0) es
  ascending-edges es h = ascending_beside (map (λ e. e.0) es) (edges_beside es h)

-- a set by its names beside nothing, which rise
pub ascending_rises : (s : set.FinSet name_cmp) → T (is_sorted name_cmp (beside (ascending s)))
unfolding ascending
ascending_rises s = edges_beside (placed (set.items s)) (placed_sorted (set.items s))

-- ---- what is in a set

-- what holds of each of the names of a set holds of each name in it
pub ascending_all : (P : Name → Type 0) (s : set.FinSet name_cmp) → All P (ascending s) → (k : Name) → IsTrue (set.contains s k) → P k
ascending_all P s all k there =
    let at = at_any k (ascending s) (sym (set.contains-from_list name_total (ascending s) k)
    ∙ ap (λ (s : set.FinSet name_cmp). set.contains s k) (set_of-ascending s) ∙ there) in
    subst P at.2 (all at.0 k at.1)

-- each of its names is in it
pub contains-ascending : (s : set.FinSet name_cmp) (i : ℕ) (k : Name) → slice_get (ascending s) i ≡ Some k → set.contains s k ≡ true
contains-ascending s i k at =
    sym (ap (λ (s : set.FinSet name_cmp). set.contains s k) (set_of-ascending s))
    ∙ set.contains-from_list name_total (ascending s) k
    ∙ any_passes_from_place (tied k) (ascending s) i k at (ap is_eq (tied_itself name_total k))
