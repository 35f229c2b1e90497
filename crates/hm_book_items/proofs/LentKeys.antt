-- Looking a key up among lent ones.
use Rattle.std.proofs.Common.{◌≡◌, ℕ, zero, suc, ◌<◌, ◌≤◌, List, [], ◌∷◌, map, length, get_or, Result, Ok, Err, subst, arith}
use Rattle.std.specs.declared.cmp.Ordering.{Ordering}
use Rattle.std.specs.declared.cmp.Ordering.TheVariants.{Less, Equal, Greater}
use Rattle.std.specs.Ordering.{ordering_index}
use Rattle.std.specs.List.Sorted.{IsSearchInRange, IsNonDecreasingBy, IsBinarySearchResult}
use Rattle.std.specs.Borrow.{Bor}
use Rattle.std.proofs.lemmas.List.{length-map, get_or-map}
use Rattle.hm_tree.specs.Names.{Name}
use Rattle.hm_book_items.specs.LentKeys.{lent_counts}

module _ {X Y : Type 0} (f : X → Y) where
  -- what holds of the image of an element holds at its place in the list of images
  mapped : (P : Y → Type 0) (xs : List X) (i : ℕ) → i < length xs → ((d : X) → P (f (get_or xs i d))) → (d : Y) → P (get_or (map f xs) i d)
  mapped P [] i lt h d = absurd (omega arith)
  mapped P (x ∷ xs) zero lt h d = h x
  mapped P (x ∷ xs) (suc i) lt h d = mapped P xs i (omega arith) h d

  risen : (n : Y → ℕ) (xs : List X) → IsNonDecreasingBy n (map f xs) → IsNonDecreasingBy (λ x. n (f x)) xs
  risen n xs h i j d le lt =
      let within : j < length (map f xs) = let same = length-map xs f in omega arith in
      subst (λ a. n a ≤ n (f (get_or xs j d))) (get_or-map f xs i d (f d) (omega arith))
      (subst (λ b. n (get_or (map f xs) i (f d)) ≤ n b) (get_or-map f xs j d (f d) lt) (h i j (f d) le within))

  -- a search by what elements are mapped to is one of the list of images
  pub found_among : (ord : Y → Ordering) (xs : List X) (r : Result ℕ ℕ) → IsSearchInRange r (length xs) → IsBinarySearchResult (λ x. ord (f x)) xs r
      → IsBinarySearchResult ord (map f xs) r
  found_among ord xs (Ok i) within equal = λ d. mapped (λ y. ord y ≡ Equal) xs i within (λ d. equal d) d
  found_among ord xs (Err i) within parted = λ rise.
      let p = parted (risen (λ y. ordering_index (ord y)) xs rise) in
      let same = length-map xs f in (
        λ j d from below.
            let low : j < length xs = omega (arith, within) in
            mapped (λ y. ord y ≡ Less) xs j low (λ d. p.0 j d from below) d,
        λ j d from below.
            let low : j < length xs = omega (arith, same) in
            mapped (λ y. ord y ≡ Greater) xs j low (λ d. p.1 j d from low) d,
      )

pub lent_length : (es : List (Bor Name × ℕ)) → length (lent_counts es) ≡ length es
lent_length es = length-map es (λ (e : Bor Name × ℕ). (e.0.now, e.1))
