-- The depth of a tree of lists, by its items.
use Rattle.std.proofs.Common.{◌≡◌, ◌≢◌, ℕ, ◌+◌, ◌≤◌, max, Bool, true, false, cond, List, [], ◌∷◌, Some, slice_get, refl, sym, ap, ◌∙◌, arith}
use Rattle.std.specs.Prelude.{T}
use Rattle.std.specs.Str.{is_utf8}
use Rattle.std.specs.Ordering.{eq_by_cmp}
use Rattle.std.proofs.lemmas.Option.{same_Some}
use Rattle.hm_tree.specs.Names.{Name, name_cmp}
use Rattle.hm_tree.specs.Nodes.{Tree, depth, edges, deepest, are_texts, both}
use Rattle.hm_tree.specs.NodeLaws.{depth-edges}
use Rattle.hm_tree_parts.specs.Lists.{HasItems, none_left, and_then}
use Rattle.hm_book_items.specs.ItemTrees.{AreLists, list_depth, lists_depth}
use Rattle.hm_book_items.specs.Runs.{list_first, lists_behind, runs, first_depth}
use Rattle.hm_book_items.proofs.Runs.{tied_when, untied}

-- a list is as deep as its items say
pub depth_items : (xs : List Tree) (t : Tree) → HasItems t xs → depth t ≡ list_depth depth xs
depth_items [] t (none_left nil) = depth-edges t ∙ ap deepest nil
depth_items (x ∷ xs) t (and_then {r = r} item h) =
    let whole = depth-edges t ∙ ap deepest item in
    let rest = depth_items xs r h in
    omega (arith, whole, rest)

-- and so is a tree of lists
pub depth_lists : (es : List (Name × Tree)) (ls : List (Name × List Tree)) → AreLists es ls → deepest es ≡ lists_depth depth ls
depth_lists [] [] h = refl
depth_lists [] (l ∷ ls) h = absurd h
depth_lists (e ∷ es) [] h = absurd h
depth_lists (e ∷ es) (l ∷ ls) h =
    let here = depth_items l.1 e.1 h.0.1 in
    let rest = depth_lists es ls h.1 in
    omega (arith, here, rest)

pub depth_tree : (ls : List (Name × List Tree)) (t : Tree) → AreLists (edges t) ls → depth t ≡ lists_depth depth ls
depth_tree ls t h = depth-edges t ∙ depth_lists (edges t) ls h

-- ---- the depth of runs, from their end

module _ {X : Type 0} (deep : X → ℕ) where
  -- how deep lists are, by that of a key where it stands first, and by those behind it
  parted : (k : Name) (ls : List (Name × List X))
      → (lists_depth deep (lists_behind k ls) ≤ lists_depth deep ls)
      × (lists_depth deep ls ≤ max (list_depth deep (list_first k ls) + 1) (lists_depth deep (lists_behind k ls)))
  parted k [] = (omega arith, omega arith)
  parted k (l ∷ ls) = go (eq_by_cmp name_cmp k l.0)
    where
      go : (b : Bool) → (lists_depth deep (cond b ls (l ∷ ls)) ≤ lists_depth deep (l ∷ ls))
          × (lists_depth deep (l ∷ ls) ≤ max (list_depth deep (cond b l.1 []) + 1) (lists_depth deep (cond b ls (l ∷ ls))))
      go true = (omega arith, omega arith)
      go false = (omega arith, omega arith)

  -- what is told of items from their end: the depth that they make, that of the list of the first, and that their keys are UTF-8
  pub record AreLookedAt (xs : List (Name × X)) (deepest list : ℕ) : Type 0 where
    pub depth_is : deepest ≡ lists_depth deep (runs xs)
    pub list_is : list ≡ first_depth deep (runs xs)
    pub texts : T (are_texts xs)

  pub one_looked_at : (x : Name × X) (xs : List (Name × X)) (deepest first others own most list below new : ℕ) → AreLookedAt xs deepest first
      → T (is_utf8 x.0) → others ≡ list_depth deep (list_first x.0 (runs xs)) → own ≡ deep x.1 → most ≡ max others own → list ≡ most + 1 → below ≡ list + 1
      → new ≡ max deepest below → AreLookedAt (x ∷ xs) new list
  one_looked_at x xs deepest first others own most list below new so text behind is deeper one_more two_more taken =
      let split = parted x.0 (runs xs) in
      record {
        depth_is = omega (arith, so.depth_is, behind, is, deeper, one_more, two_more, taken, split.0, split.1);
        list_is = omega (arith, behind, is, deeper, one_more);
        texts = both _ _ text so.texts;
      }

  -- the list of a key, where the first item is known
  pub depth_first : (k : Name) (xs : List (Name × X)) (x : Name × X) → slice_get xs 0 ≡ Some x → x.0 ≡ k
      → first_depth deep (runs xs) ≡ list_depth deep (list_first k (runs xs))
  depth_first k [] x there is = let no : ⊥ = cc in absurd no
  depth_first k (y ∷ xs) x there is =
      let at : y.0 ≡ k = ap (λ (z : Name × X). z.0) (same_Some y x there) ∙ is in
      ap (λ b. list_depth deep (cond b (y.1 ∷ list_first y.0 (runs xs)) [])) (sym (tied_when k y.0 (sym at)))

  pub depth_other : (k : Name) (xs : List (Name × X)) (x : Name × X) → slice_get xs 0 ≡ Some x → x.0 ≢ k
      → 0 ≡ list_depth deep (list_first k (runs xs))
  depth_other k [] x there other = refl
  depth_other k (y ∷ xs) x there other =
      let at : k ≢ y.0 = λ is. other (ap (λ (z : Name × X). z.0) (sym (same_Some y x there)) ∙ sym is) in
      ap (λ b. list_depth deep (cond b (y.1 ∷ list_first y.0 (runs xs)) [])) (sym (untied k y.0 at))
