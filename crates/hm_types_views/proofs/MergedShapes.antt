-- Shapes that are looked for in order, and shapes merged so.
use Rattle.std.proofs.Common.{◌≡◌, ℕ, Bool, true, false, cond, not, ◌||◌, IsTrue, List, [], ◌∷◌, ◌++◌, length, get_or, map, Result, Ok, Err, refl, sym, ap, subst, ◌∙◌, arith, is_ok, inl, inr}
use mathlib.Core.Bool.{true≢false}
use Rattle.std.specs.List.{list_any, filter}
use Rattle.std.specs.List.Sorted.{IsSorted, IsPermutation, IsSearchInRange, IsBinarySearchResult}
use Rattle.std.specs.declared.cmp.Ordering.{Ordering}
use Rattle.std.specs.declared.cmp.Ordering.TheVariants.{Less, Equal, Greater}
use Rattle.std.proofs.lemmas.Bool.{false_from_ne_true, cases_lt}
use Rattle.std.proofs.lemmas.Cmp.{tied_itself}
use Rattle.std.proofs.lemmas.List.Folds.{list_any_at, list_any_none}
use Rattle.std.proofs.lemmas.List.Sorted.{list_any-IsPermutation, searchable_from_sorted}
use Rattle.hm_tree.specs.Names.{Name}
use Rattle.hm_schema.specs.declared.node.Shape.{Shape}
use Rattle.hm_schema.specs.ShapeOrder.{shape_cmp, shape_total, shape_one}
use Rattle.hm_types_nodes.specs.Merging.{same_shape, unrequired, loosened, differs_in, merged_first, merged_rest, merged_shapes}
use Rattle.hm_types_nodes.proofs.MergedShapes.{same_shape_is}

other : (q x : Shape) (r : Ordering) → shape_cmp x q ≡ r → (r ≡ Equal → ⊥) → same_shape q x ≡ false
other q x r e apart = false_from_ne_true (same_shape q x) (λ t. apart (sym e ∙ ap (λ x. shape_cmp x q) (sym ((same_shape_is q x).0 t)) ∙ tied_itself shape_total q))

-- whether a search finds a shape
pub searched : (q : Shape) (xs : List Shape) → IsSorted shape_cmp xs → (r : Result ℕ ℕ) → IsSearchInRange r (length xs)
    → IsBinarySearchResult (λ x. shape_cmp x q) xs r → is_ok r ≡ list_any (same_shape q) xs
searched q xs h (Ok i) within found = sym (list_any_at (same_shape q) xs i q within
    (subst (λ x. IsTrue (same_shape q x)) (sym (shape_one (get_or xs i q) q (found q))) ((same_shape_is q q).1 refl)))
searched q xs h (Err i) within apart =
    let p = apart (searchable_from_sorted shape_total (λ x. x) xs q h) in
    sym (list_any_none (same_shape q) xs (λ j d lt. elim (cases_lt j i) [
      | inl early ↦ other q (get_or xs j d) Less (p.0 j d (omega arith) early) (λ e. let f : ⊥ = cc in f)
      | inr late ↦ other q (get_or xs j d) Greater (p.1 j d late lt) (λ e. let f : ⊥ = cc in f)
    ]))

-- a test of equal elements gives the same in both orders
back : (a b : Shape) → same_shape a b ≡ same_shape b a
back a b = go (same_shape a b) (same_shape b a) (λ t. (same_shape_is b a).1 (sym ((same_shape_is a b).0 t)))
    (λ t. (same_shape_is a b).1 (sym ((same_shape_is b a).0 t)))
  where
    go : (p q : Bool) → (IsTrue p → IsTrue q) → (IsTrue q → IsTrue p) → p ≡ q
    go true q f g = sym (f refl)
    go false q f g = sym (false_from_ne_true q (λ t. true≢false (sym (g t))))

module _ (m : Name) where
  -- the first shapes, by others in order
  loosened_same : (xs ys others : List Shape) → IsPermutation ys others
      → map (λ a. cond (list_any (same_shape (unrequired m a)) others) (loosened m a) a) xs ≡ merged_first m xs ys
  loosened_same [] ys others p = refl
  loosened_same (x ∷ xs) ys others p =
      let here = list_any-IsPermutation (same_shape (unrequired m x)) ys others p in
      let rest = loosened_same xs ys others p in
      λ i. cond (sym here i) (loosened m x) x ∷ rest i

  any_mapped : (b : Shape) (xs : List Shape) → list_any (same_shape b) (map (unrequired m) xs) ≡ list_any (λ a. differs_in m a b) xs
  any_mapped b [] = refl
  any_mapped b (x ∷ xs) =
      let here = back b (unrequired m x) in
      let rest = any_mapped b xs in
      λ i. here i || rest i

  rest_same : (xs ys bare : List Shape) → IsPermutation (map (unrequired m) xs) bare
      → filter (λ b. not (list_any (same_shape b) bare)) ys ≡ merged_rest m xs ys
  rest_same xs [] bare p = refl
  rest_same xs (y ∷ ys) bare p =
      let here = sym (list_any-IsPermutation (same_shape y) (map (unrequired m) xs) bare p) ∙ any_mapped y xs in
      let rest = rest_same xs ys bare p in
      λ i. cond (not (here i)) (y ∷ rest i) (rest i)

  pub merged_same : (xs ys others bare : List Shape) → IsPermutation ys others → IsPermutation (map (unrequired m) xs) bare
      → map (λ a. cond (list_any (same_shape (unrequired m a)) others) (loosened m a) a) xs ++ filter (λ b. not (list_any (same_shape b) bare)) ys
      ≡ merged_shapes m xs ys
  merged_same xs ys others bare p q =
      let first = loosened_same xs ys others p in
      let rest = rest_same xs ys bare q in
      λ i. first i ++ rest i
