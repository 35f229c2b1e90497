-- The depth of the tree of items is told from their keys and from how deep each is.
use Rattle.std.proofs.Common.{◌≡◌, ◌≢◌, ℕ, Bool, true, false, cond, ◌&&◌, T, List, [], ◌∷◌, map, Option, Some, None, refl, sym, ap, subst, ◌∙◌, arith}
use Rattle.std.specs.Ordering.{is_lt, eq_by_cmp}
use Rattle.std.specs.Option.{unwrap_or, option_map}
use Rattle.std.specs.FinMap.{is_sorted, find}
use Rattle.hm_tree.specs.Names.{Name, name_cmp}
use Rattle.hm_tree.specs.Nodes.{Tree, depth, below_all}
use Rattle.hm_book_items.specs.Items.{of_key, IsGrouped}
use Rattle.hm_book_items.specs.ItemTrees.{IsItemTree, IsDepthOfLists, list_depth, lists_depth}
use Rattle.hm_book_items.proofs.ListDepths.{depth_tree}

module _ {X : Type 0} (deep : X → ℕ) where
  -- how deep items are, and how deep those of lists are
  abbrev pub depths_of : List (Name × X) → List (Name × ℕ)
  depths_of xs = map (λ x. (x.0, deep x.1)) xs

  abbrev lists_of : List (Name × List X) → List (Name × List ℕ)
  lists_of ls = map (λ l. (l.0, map deep l.1)) ls

  same_below : (n : Name) (ls : List (Name × List X)) → below_all n (lists_of ls) ≡ below_all n ls
  same_below n [] = refl
  same_below n (l ∷ ls) = λ i. is_lt (name_cmp n l.0) && same_below n ls i

  same_order : (ls : List (Name × List X)) → is_sorted name_cmp (lists_of ls) ≡ is_sorted name_cmp ls
  same_order [] = refl
  same_order (l ∷ ls) = λ i. same_below l.0 ls i && same_order ls i

  found : (k : Name) (ls : List (Name × List X)) → find name_cmp k (lists_of ls) ≡ option_map (map deep) (find name_cmp k ls)
  found k [] = refl
  found k (l ∷ ls) = go (eq_by_cmp name_cmp k l.0) (found k ls)
    where
      go : (b : Bool) → find name_cmp k (lists_of ls) ≡ option_map (map deep) (find name_cmp k ls)
          → cond b (Some (map deep l.1)) (find name_cmp k (lists_of ls)) ≡ option_map (map deep) (cond b (Some l.1) (find name_cmp k ls))
      go true rest = refl
      go false rest = rest

  not_empty : (o : Option (List X)) → o ≢ Some [] → option_map (map deep) o ≢ Some []
  not_empty None some e = let no : ⊥ = cc in no
  not_empty (Some []) some e = some refl
  not_empty (Some (x ∷ xs)) some e = let no : ⊥ = cc in no

  or_none : (o : Option (List X)) → unwrap_or (option_map (map deep) o) [] ≡ map deep (unwrap_or o [])
  or_none None = refl
  or_none (Some l) = refl

  keyed : (k : Name) (xs : List (Name × X)) → of_key name_cmp k (depths_of xs) ≡ map deep (of_key name_cmp k xs)
  keyed k [] = refl
  keyed k (x ∷ xs) = go (eq_by_cmp name_cmp k x.0) (keyed k xs)
    where
      go : (b : Bool) → of_key name_cmp k (depths_of xs) ≡ map deep (of_key name_cmp k xs)
          → cond b (deep x.1 ∷ of_key name_cmp k (depths_of xs)) (of_key name_cmp k (depths_of xs)) ≡ map deep (cond b (x.1 ∷ of_key name_cmp k xs) (of_key name_cmp k xs))
      go true rest = ap (λ l. deep x.1 ∷ l) rest
      go false rest = rest

  grouped_depths : (xs : List (Name × X)) (ls : List (Name × List X)) → IsGrouped name_cmp xs ls → IsGrouped name_cmp (depths_of xs) (lists_of ls)
  grouped_depths xs ls g = record {
    tree_is = record {
      sorted = subst T (sym (same_order ls)) g.tree_is.sorted;
      filled = λ k e. not_empty (find name_cmp k ls) (g.tree_is.filled k) (sym (found k ls) ∙ e);
    };
    each = λ k. ap (λ o. unwrap_or o []) (found k ls) ∙ or_none (find name_cmp k ls) ∙ ap (map deep) (g.each k) ∙ sym (keyed k xs);
  }

  same_list : (xs : List X) → list_depth (λ n. n) (map deep xs) ≡ list_depth deep xs
  same_list [] = refl
  same_list (x ∷ xs) = let rest = same_list xs in omega (arith, rest)

  same_lists : (ls : List (Name × List X)) → lists_depth (λ n. n) (lists_of ls) ≡ lists_depth deep ls
  same_lists [] = refl
  same_lists (l ∷ ls) = let here = same_list l.1 in let rest = same_lists ls in omega (arith, here, rest)

pub depth_by_items : (items : List (Name × Tree)) (t : Tree) (d : ℕ) → IsItemTree items t → IsDepthOfLists (λ n. n) (depths_of depth items) d → d ≡ depth t
depth_by_items items t d is known =
    known (lists_of depth is.lists) (grouped_depths depth items is.lists is.grouped) ∙ same_lists depth is.lists ∙ sym (depth_tree is.lists t is.below)
