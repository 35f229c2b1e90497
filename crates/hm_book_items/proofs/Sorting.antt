-- Items that are sorted stably by their keys: those of each key stay in their order.
use Rattle.std.proofs.Common.{◌≡◌, Bool, true, false, cond, not, ◌&&◌, List, [], ◌∷◌, map, filter, refl, sym, ap, ◌∙◌}
use Rattle.std.specs.declared.cmp.Ordering.{Ordering}
use Rattle.std.specs.declared.cmp.Ordering.TheVariants.{Less, Equal, Greater}
use Rattle.std.specs.Ordering.{is_lt, is_eq, eq_by_cmp, ordering_reverse}
use Rattle.std.specs.List.Sorted.{ties, IsStableBy}
use Rattle.hm_tree.specs.Names.{Name, name_cmp}
use Rattle.hm_tree.proofs.Sorted.{name_total}
use Rattle.hm_book_items.specs.Items.{of_key}

neither : (r : Ordering) → (not (is_lt r) && not (is_lt (ordering_reverse r))) ≡ is_eq r
neither Less = refl
neither Equal = refl
neither Greater = refl

module _ {X : Type 0} where
  -- whether an item's key is less than another's
  abbrev pub is_below : Name × X → Name × X → Bool
  is_below x y = is_lt (name_cmp x.0 y.0)

  tied : (x y : Name × X) → ties is_below x y ≡ eq_by_cmp name_cmp x.0 y.0
  tied x y = ap (λ r. not (is_below x y) && not (is_lt r)) (name_total.antisymm y.0 x.0) ∙ neither (name_cmp x.0 y.0)

  abbrev item_of : Name × X → X
  item_of x = x.1

  -- the items of a key are those that tie with it
  of_key_ties : (k : Name) (any : X) (xs : List (Name × X)) → of_key name_cmp k xs ≡ map item_of (filter (ties is_below (k, any)) xs)
  of_key_ties k any [] = refl
  of_key_ties k any (x ∷ xs) = one (ties is_below (k, any) x) (eq_by_cmp name_cmp k x.0) (tied (k, any) x) _ _ (of_key_ties k any xs)
    where
      one : (b c : Bool) → b ≡ c → (l : List X) (m : List (Name × X)) → l ≡ map item_of m → cond c (x.1 ∷ l) l ≡ map item_of (cond b (x ∷ m) m)
      one true true e l m h = ap (λ l. x.1 ∷ l) h
      one true false e l m h = let no : ⊥ = cc in absurd no
      one false true e l m h = let no : ⊥ = cc in absurd no
      one false false e l m h = h

  pub of_key_stable : (xs ys : List (Name × X)) → IsStableBy is_below xs ys → (k : Name) → of_key name_cmp k ys ≡ of_key name_cmp k xs
  of_key_stable xs ys stable k = go xs ys stable
    where
      like : (any : X) (xs ys : List (Name × X)) → IsStableBy is_below xs ys → of_key name_cmp k ys ≡ of_key name_cmp k xs
      like any xs ys stable = of_key_ties k any ys ∙ ap (map item_of) (stable (k, any)) ∙ sym (of_key_ties k any xs)

      go : (xs ys : List (Name × X)) → IsStableBy is_below xs ys → of_key name_cmp k ys ≡ of_key name_cmp k xs
      go [] [] stable = refl
      go (x ∷ xs) ys stable = like x.1 (x ∷ xs) ys stable
      go [] (y ∷ ys) stable = like y.1 [] (y ∷ ys) stable
