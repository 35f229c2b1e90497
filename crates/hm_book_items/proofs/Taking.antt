-- The trees that items from before take.
use Rattle.std.proofs.Common.{◌≡◌, ℕ, zero, suc, ◌<◌, T, List, [], ◌∷◌, length, get_or, slice_get, map, drop, min, Some, refl, sym, ap, ◌∙◌, subst, arith}
use Rattle.std.specs.Borrow.{Bor}
use Rattle.std.specs.Option.{unwrap_or}
use Rattle.std.specs.FinMap.{is_sorted}
use Rattle.std.proofs.lemmas.List.{length-map, get_or-map, drop_min, drop-map}
use Rattle.std.proofs.lemmas.Option.{slice_get-get_or}
use Rattle.hm_tree.specs.Names.{Name, name_cmp}
use Rattle.hm_tree.specs.Nodes.{Tree}
use Rattle.hm_book_items.specs.Items.{of_key, below_key}
use Rattle.hm_book_items.specs.LentKeys.{lent_counts}
use Rattle.hm_book_items.specs.Plans.{numbered, wanted_of, place_for, IsPlaceUnder}
use Rattle.hm_book_items.proofs.Numbers.{place_read, wanted_rise}
use Rattle.hm_book_items.specs.Lent.{LentList, lent_list}
use Rattle.hm_book_items.specs.declared.new_trees.NewTrees.{NewTrees}
use Rattle.hm_book_items.specs.Taken.{HasTaken, list_at}
use Rattle.hm_tree.proofs.Sorted.{found_in_order}
use Rattle.hm_book_items.specs.ItemTrees.{Lists}

wanted_at : (lists : Lists) (i : ℕ) → get_or (wanted_of lists) i ([], 0) ≡ ((list_at lists i).0, length (list_at lists i).1)
wanted_at [] zero = refl
wanted_at [] (suc i) = refl
wanted_at (l ∷ lists) zero = refl
wanted_at (l ∷ lists) (suc i) = wanted_at lists i

pub length-wanted : (lists : Lists) → length (wanted_of lists) ≡ length lists
length-wanted [] = refl
length-wanted (l ∷ lists) = ap suc (length-wanted lists)

-- ---- lists of trees

module _ (lists : Lists) (rise : T (is_sorted name_cmp lists)) (k : Name) (edge place : ℕ) (is : IsPlaceUnder (wanted_of lists) k edge place) where
  pub edge_in : edge < length lists
  edge_in = let lt = is.among in let n = length-wanted lists in omega (arith, lt, n)

  pub place_in : place < length (list_at lists edge).1
  place_in = subst (λ (e : Name × ℕ). place < e.1) (wanted_at lists edge) is.within

  -- what stands below the key
  below_is : below_key name_cmp k lists ≡ (list_at lists edge).1
  below_is =
      let key = sym (ap (λ (e : Name × ℕ). e.0) (wanted_at lists edge)) ∙ is.key_is in
      ap (λ (j : Name). below_key name_cmp j lists) (sym key)
      ∙ ap (λ o. unwrap_or o []) (found_in_order lists rise edge (list_at lists edge) (slice_get-get_or lists edge ([], []) edge_in))

  -- an item with the key at this place takes the tree
  pub tree_taken : (keys : List Name) → Some place ≡ place_for (wanted_of lists) keys k → (tree : Tree) → tree ≡ get_or (list_at lists edge).1 place tree
      → Some tree ≡ slice_get (below_key name_cmp k lists) (length (of_key name_cmp k (numbered 0 keys)))
  tree_taken keys at tree there =
      ap Some there ∙ sym (slice_get-get_or (list_at lists edge).1 place tree place_in) ∙ ap (λ (l : List Tree). slice_get l place) (sym below_is)
      ∙ ap (slice_get (below_key name_cmp k lists)) (place_read k keys lists place at)

-- ---- lists that are lent

module _ (t : NewTrees) (lists : Lists) (keys : List Name) (h : HasTaken t lists keys) where
  pub sorted_wanted : (wanted : List (Bor Name × ℕ)) → wanted ≡ t.wanted.items → T (is_sorted name_cmp (lent_counts wanted))
  sorted_wanted wanted is = subst (λ es. T (is_sorted name_cmp es)) (sym (ap lent_counts is ∙ h.wanted_are)) (wanted_rise lists h.rise)

  pub as_many : length t.lists.now ≡ length lists
  as_many = sym (length-map t.lists.now lent_list) ∙ ap length h.lists_are

  module _ (edge : ℕ) (lt : edge < length lists) (d l : LentList) (is : l ≡ get_or t.lists.now edge d) where
    list_is : list_at lists edge ≡ lent_list l
    list_is =
        ap (λ ls. get_or ls edge ([], [])) (sym h.lists_are)
        ∙ get_or-map lent_list t.lists.now edge d ([], []) (let n = as_many in omega (arith, n, lt)) ∙ ap lent_list (sym is)

    pub key_at : (list_at lists edge).0 ≡ l.0.now
    key_at = ap (λ (l : Name × List Tree). l.0) list_is

    trees_are : (list_at lists edge).1 ≡ map (λ (b : Bor Tree). b.now) l.1.items
    trees_are = ap (λ (l : Name × List Tree). l.1) list_is

    pub trees_many : length (list_at lists edge).1 ≡ length l.1.items
    trees_many = ap length trees_are ∙ length-map l.1.items (λ (b : Bor Tree). b.now)

    pub tree_is : (place : ℕ) (tree : Bor Tree) → place < length (list_at lists edge).1 → tree ≡ get_or l.1.items place tree → tree.now ≡ get_or (list_at lists edge).1 place tree.now
    tree_is place tree low at =
        ap (λ (b : Bor Tree). b.now) at ∙ sym (get_or-map (λ (b : Bor Tree). b.now) l.1.items place tree tree.now (let n = trees_many in omega (arith, low, n)))
        ∙ ap (λ ts. get_or ts place tree.now) (sym trees_are)

    -- the trees that are left
    pub left_are : (count many : ℕ) (left : List (Bor Tree)) → count ≡ get_or t.counts.items edge 0 → many ≡ length l.1.items → left ≡ drop (min count many) l.1.items
        → map (λ (b : Bor Tree). b.now) left ≡ drop (length (of_key name_cmp (list_at lists edge).0 (numbered 0 keys))) (list_at lists edge).1
    left_are count many left counted long rest =
        let n = length-wanted lists in
        let taken : count ≡ length (of_key name_cmp (list_at lists edge).0 (numbered 0 keys)) =
        counted ∙ h.counts_are.each edge (omega (arith, lt, n)) ∙ ap (λ (e : Name × ℕ). length (of_key name_cmp e.0 (numbered 0 keys))) (wanted_at lists edge) in
        ap (map (λ (b : Bor Tree). b.now)) (rest ∙ ap (λ m. drop (min count m) l.1.items) long ∙ drop_min count l.1.items)
        ∙ sym (drop-map (λ (b : Bor Tree). b.now) count l.1.items) ∙ (λ i. drop (taken i) (sym trees_are i))
