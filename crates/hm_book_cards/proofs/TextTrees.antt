-- The trees of texts: their edges and their names.
use Rattle.std.proofs.Common.{◌≡◌, ℕ, suc, ◌&&◌, T, List, [], ◌∷◌, ◌++◌, map, slice_get, Some, refl, sym, ap, subst, ◌∙◌}
use Rattle.std.proofs.lemmas.List.{map-append}
use Rattle.std.specs.Ordering.{is_lt}
use Rattle.std.specs.FinMap.{is_sorted}
use Rattle.std.specs.Prelude.{IsTrue, IsUtf8}
use Rattle.std.specs.FinSet.{FinSet, contains, from_list}
use Rattle.std.specs.List.Sorted.{IsStrictlySortedBy}
use Rattle.std.specs.Str.{is_utf8}
use Rattle.hm_tree.specs.Names.{Name, name_cmp}
use Rattle.hm_tree.specs.Nodes.{Tree, empty, edges, are_edges, are_texts, below_all, edges_from, both, first, second}
use Rattle.hm_tree.specs.NodeLaws.{edges-node}
use Rattle.hm_tree.specs.Sets.{ascending}
use Rattle.hm_tree.proofs.Texts.{text_test}
use Rattle.hm_tree.proofs.Ascending.{beside, set_of-ascending, ascending_rises, contains-ascending, ascending_is}
use Rattle.hm_schema.specs.Permitted.{names_of}
use Rattle.hm_book_cards.specs.Cards.{leaf, texts_tree, no_texts, IsSound}

pub none_ascending : ascending no_texts ≡ []
unfolding IsStrictlySortedBy
none_ascending = ascending_is [] no_texts tt refl

-- names with values rise where the names do
module _ {X : Type 0} (value : Name → X) where
  abbrev valued : Name → Name × X
  valued k = (k, value k)

  below_valued : (n : Name) (ks : List Name) → below_all n (map valued ks) ≡ below_all n (beside ks)
  below_valued n [] = refl
  below_valued n (k ∷ ks) = λ i. is_lt (name_cmp n k) && below_valued n ks i

  sorted_valued : (ks : List Name) → is_sorted name_cmp (map valued ks) ≡ is_sorted name_cmp (beside ks)
  sorted_valued [] = refl
  sorted_valued (k ∷ ks) = λ i. below_valued k ks i && sorted_valued ks i

  -- and they may be edges where the names are UTF-8
  texts_valued : (ks : List Name) → ((i : ℕ) (k : Name) → slice_get ks i ≡ Some k → T (is_utf8 k)) → T (are_texts (map valued ks))
  texts_valued [] h = tt
  texts_valued (k ∷ ks) h = both _ _ (h 0 k refl) (texts_valued ks (λ i q e. h (suc i) q e))

  pub set_edges : (names : FinSet name_cmp) → ((k : Name) → IsTrue (contains names k) → IsUtf8 k) → T (are_edges (map valued (ascending names)))
  set_edges names sound =
      edges_from (map valued (ascending names)) (subst T (sym (sorted_valued (ascending names))) (ascending_rises names))
      (texts_valued (ascending names) (λ i k e. text_test k (sound k (contains-ascending names i k e))))

module _ {X : Type 0} where
  -- one more UTF-8 name
  pub texts_more : (es : List (Name × X)) (e : Name × X) → T (are_texts es) → T (is_utf8 e.0) → T (are_texts (es ++ e ∷ []))
  texts_more [] e h one = both _ _ one tt
  texts_more (d ∷ es) e h one = both _ _ (first _ _ h) (texts_more es e (second (is_utf8 d.0) _ h) one)

-- the leaves of names that rise
pub rising_leaves : (ks : List Name) → IsStrictlySortedBy name_cmp ks → T (is_sorted name_cmp (map leaf ks))
rising_leaves ks h =
    subst (λ ks. T (is_sorted name_cmp (map leaf ks))) (ascending_is ks (from_list {R = name_cmp} ks) h refl)
    (subst T (sym (sorted_valued (λ k. empty) (ascending (from_list {R = name_cmp} ks)))) (ascending_rises (from_list {R = name_cmp} ks)))

-- the leaves of names with a name more
pub leaf_more : (ks : List Name) (es : List (Name × Tree)) (k : Name) (t : Tree) → es ≡ map leaf ks → t ≡ empty → es ++ (k, t) ∷ [] ≡ map leaf (ks ++ k ∷ [])
leaf_more ks es k t same is =
    ap (λ t. es ++ (k, t) ∷ []) is ∙ ap (λ es. es ++ leaf k ∷ []) same ∙ sym (map-append leaf ks (k ∷ []))

-- the names of leaves
pub names_leaves : (ks : List Name) → map (λ (e : Name × Tree). e.0) (map leaf ks) ≡ ks
names_leaves [] = refl
names_leaves (k ∷ ks) = λ i. k ∷ names_leaves ks i

module _ (texts : FinSet name_cmp) (sound : IsSound texts) where
  pub leaves_are : T (are_edges (map leaf (ascending texts)))
  leaves_are = set_edges (λ k. empty) texts sound

  pub edges_texts : edges (texts_tree texts) ≡ map leaf (ascending texts)
  edges_texts = edges-node (map leaf (ascending texts)) leaves_are

  -- the names of the tree of texts are these texts
  pub names_texts : names_of (texts_tree texts) ≡ texts
  names_texts =
      ap (λ es. from_list {R = name_cmp} (map (λ (e : Name × Tree). e.0) es)) edges_texts
      ∙ ap (λ ks. from_list {R = name_cmp} ks) (names_leaves (ascending texts)) ∙ set_of-ascending texts
