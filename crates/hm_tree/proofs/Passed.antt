-- A walk over names that rise.
use Rattle.std.proofs.Common.{◌≡◌, ℕ, ◌<◌, ◌≤◌, Bool, true, false, List, length, get_or, refl, sym, ap, ◌∙◌, arith, Ok, Err, inl, inr}
use Rattle.std.specs.Prelude.{IsTrue, slice_index_or, ◌↔◌}
use Rattle.std.specs.Ordering.{is_lt, ordering_reverse}
use Rattle.std.specs.List.Sorted.{IsStrictlySortedBy}
use Rattle.std.specs.declared.cmp.Ordering.{Ordering}
use Rattle.std.specs.declared.cmp.Ordering.TheVariants.{Less, Equal, Greater}
use Rattle.std.specs.FinSet as set
use Rattle.std.proofs.lemmas.Bool.{true≢false, cases_lt}
use Rattle.std.proofs.lemmas.Cmp.{tied_itself}
use Rattle.std.proofs.lemmas.List.{get_or_default}
use Rattle.std.proofs.lemmas.Map.Keys.{Less-from_sorted}
use Rattle.hm_tree.specs.Names.{Name, name_cmp}
use Rattle.hm_tree.specs.NameLaws.{name_total, name_one}
use Rattle.hm_tree.specs.Sets.{ArePassed}
use Rattle.hm_tree.proofs.NameSets.{searched_any}

module _ (names : List Name) (at : ℕ) (q : Name) (sorted : IsStrictlySortedBy name_cmp names) (passed : ArePassed names at q) where
  -- all names are passed
  pub none_left : length names ≤ at → (found : Bool) → found ≡ false → found ≡ set.contains (set.from_list {R = name_cmp} names) q
  none_left over found none =
      none ∙ searched_any q names sorted (Err at) passed.within
      (λ searchable. (λ j d low high. passed.less j d high, λ j d low high. absurd (omega (arith, over, low, high))))

  -- the next one isn't less
  pub next_tells : (x y : Name) (found : Bool) → at < length names → x ≡ slice_index_or names at x → y ≡ slice_index_or names at y
      → is_lt (name_cmp y q) ≡ false → IsTrue found ↔ (x ≡ q) → found ≡ set.contains (set.from_list {R = name_cmp} names) q
  next_tells x y true lt is read not_less same =
      searched_any q names sorted (Ok at) lt (λ d. ap (λ n. name_cmp n q) (get_or_default names at d x lt ∙ sym is ∙ same.0 refl) ∙ tied_itself name_total q)
  next_tells x y false lt is read not_less same =
      searched_any q names sorted (Err at) passed.within
      (λ searchable. (
        λ j d low high. passed.less j d high,
        λ j d low high. elim (cases_lt at j) [
          | inl later ↦ name_total.antisymm (get_or names j d) q ∙ ap ordering_reverse (name_total.trans q x (get_or names j d) less
              (ap (λ n. name_cmp n (get_or names j d)) (is ∙ sym (get_or_default names at d x lt)) ∙ Less-from_sorted name_cmp names at j d sorted later high))
          | inr here ↦ let same_place : j ≡ at = omega (arith, low, here) in
              ap (λ i. name_cmp (get_or names i d) q) same_place ∙ ap (λ n. name_cmp n q) (get_or_default names at d x lt ∙ sym is) ∙ greater
        ],
      ))
    where
      go : (o : Ordering) → name_cmp x q ≡ o → is_lt o ≡ false → name_cmp x q ≡ Greater
      go Less e h = absurd (true≢false h)
      go Equal e h = absurd (true≢false (sym (same.1 (name_one x q e))))
      go Greater e h = e

      greater : name_cmp x q ≡ Greater
      greater = go (name_cmp x q) refl (ap (λ n. is_lt (name_cmp n q)) (is ∙ sym (get_or_default names at y x lt) ∙ sym read) ∙ not_less)

      less : name_cmp q x ≡ Less
      less = name_total.antisymm q x ∙ ap ordering_reverse greater
