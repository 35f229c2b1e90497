-- Walks through the tree of bookmarks.
use Rattle.std.proofs.Common.{◌≡◌, ℕ, ◌+◌, ◌<◌, ◌≤◌, max, List, ◌∷◌, [], length, take, slice_get, get_or, Some, sym, ap, subst, ◌∙◌, arith}
use denote.Param.Weighed.{most, most-append}
use Rattle.std.proofs.lemmas.List.{take_all, take_more}
use Rattle.std.proofs.lemmas.Option.{get_or_from_slice_get, slice_get_within}
use Rattle.hm_tree.specs.Classes.{IsClean}
use Rattle.hm_tree.specs.Names.{Name}
use Rattle.hm_tree.specs.Nodes.{Tree, below, edges, depth}
use Rattle.hm_tree.proofs.Depths.{depth_edge, depth_below}
use Rattle.hm_tree.proofs.Steps.{found_edge}
use Rattle.hm_tree_parts.specs.Edges.{IsEdge}
use Rattle.hm_tree_parts.specs.Lists.{IsNil, ListOf, an_item}
use Rattle.hm_tree_parts.proofs.OneEdge.{below-edge}
use Rattle.hm_tree_parts.proofs.OneList.{below-head, below-tail}
use Rattle.hm_book_cards.proofs.BookTrees.{IsEntry}
use Rattle.hm_book_cards.proofs.CardLists.{Items, items_alike as items_of_list}
use Rattle.hm_marks.specs.FolderTrees.{folder_name}
use Rattle.hm_marks_schema.specs.Members.{IsAt, IsNextItem}
use Rattle.hm_marks_schema.specs.Nesting.{at_folder, at_list, at_item, folders_in}
use Rattle.hm_marks_schema.proofs.Nesting.{at_edge, by_edges, in_list, in_nil, in_folder, in_item, within_depth}
use Rattle.hm_marks_schema.proofs.Nodes.{entries_alike}

-- what stands at a place of a tree
abbrev Stands : ℕ → Name → Tree → Tree → Type 0
Stands i k x t = slice_get (edges t) i ≡ Some (k, x)

-- ---- the lists of a folder

list_of : (t : Tree) → Items (IsAt 3) t → ListOf (IsAt 3) t
list_of t h =
    let some = (items_of_list (IsAt 3) (IsAt 3) (record { into = λ t h. h; from = λ t h. h })).from t h in
    an_item some.is some.in_set.first some.in_set.rest

pub list_here : (t : Tree) (i : ℕ) (k : Name) (x : Tree) → IsAt 1 t → Stands i k x t → ListOf (IsAt 3) x
list_here t i k x member at =
    let entry = entries_alike.into t member i (k, x) (slice_get_within (edges t) i (k, x) at) in
    list_of x (subst (λ (e : Name × Tree). Items (IsAt 3) e.1) (get_or_from_slice_get (edges t) i (k, x) (k, x) at) entry.1)

pub list_below : (t : Tree) (k : Name) (x : Tree) → IsAt 1 t → below k t ≡ Some x → ListOf (IsAt 3) x
list_below t k x member at = list_of x (found_edge (IsEntry IsClean (IsAt 3)) k x (edges t) (entries_alike.into t member) at).1

pub edge_less : (t : Tree) (i : ℕ) (k : Name) (x : Tree) → Stands i k x t → depth x < depth t
edge_less t i k x at = depth_edge t i k x at

most_more : {X : Type 0} (f : X → ℕ) (xs : List X) (i : ℕ) (x : X) → i < length xs → most f (take (i + 1) xs) ≡ max (most f (take i xs)) (f (get_or xs i x))
most_more f xs i x lt =
    let one = most-append f (take i xs) (get_or xs i x ∷ []) in
    let taken = ap (most f) (take_more xs i x lt) in
    omega (arith, one, taken)

-- how many folders nest in what stands at the places so far
module _ (t : Tree) (i : ℕ) where
  abbrev so_far : ℕ
  so_far = most (at_edge at_folder) (take i (edges t))

  pub one_place_more : (k : Name) (x : Tree) (old found new : ℕ) → old ≡ so_far → Stands i k x t → found ≡ folders_in at_list x.shape → new ≡ max found old
      → new ≡ most (at_edge at_folder) (take (i + 1) (edges t))
  one_place_more k x old found new so at is taken =
      let more = most_more (at_edge at_folder) (edges t) i (k, x) (slice_get_within (edges t) i (k, x) at) in
      let here = ap (at_edge at_folder) (get_or_from_slice_get (edges t) i (k, x) (k, x) at) in
      omega (arith, so, is, taken, more, here)

  pub all_places : (old : ℕ) → old ≡ so_far → length (edges t) ≤ i → old ≡ folders_in at_folder t.shape
  all_places old so over = so ∙ ap (most (at_edge at_folder)) (take_all i (edges t) over) ∙ sym (by_edges at_folder t)

-- ---- the items of a list

-- what is left of a list, and how many folders nest in what is in front of it
pub record IsAhead (list rest : Tree) (most : ℕ) : Type 0 where
  pub left : ListOf (IsAt 3) rest
  pub less : depth rest ≤ depth list
  pub whole : folders_in at_list list.shape ≡ max most (folders_in at_list rest.shape)

module _ (list rest : Tree) (most : ℕ) (so : IsAhead list rest most) where
  pub one_ahead : (item others : Tree) (found more : ℕ) → IsNextItem rest item others → found ≡ in_item item → more ≡ max found most → IsAhead list others more
  one_ahead item others found more next is taken =
      let less = depth_below _ rest others (below-tail item others rest next.is) in
      let here = in_list item others rest next.is in
      record { left = next.others_at; less = omega (arith, less, so.less); whole = omega (arith, so.whole, here, is, taken) }

  pub none_ahead : IsNil rest → most ≡ folders_in at_list list.shape
  none_ahead none = let here = in_nil rest none in omega (arith, so.whole, here)

  -- items are less deep than the list
  pub item_less : (item others : Tree) → IsNextItem rest item others → depth item < depth list
  item_less item others next = let less = depth_below _ rest item (below-head item others rest next.is) in omega (arith, less, so.less)

pub rest_less : (rest item others : Tree) → IsNextItem rest item others → depth others < depth rest
rest_less rest item others next = depth_below _ rest others (below-tail item others rest next.is)

-- ---- an item

pub folder_less : (u t : Tree) → IsEdge folder_name u t → depth u < depth t
folder_less u t is = depth_below folder_name t u (below-edge folder_name u t is)

-- one folder more, which is no deeper than the tree
pub one_more : (u t : Tree) (inside : ℕ) → IsEdge folder_name u t → inside ≡ folders_in at_folder u.shape → (inside + 1 ≡ in_item t) × (inside + 1 ≤ depth t)
one_more u t inside is e =
    let here = in_folder u t is in
    let deep = within_depth at_item t in
    (omega (arith, here, e), omega (arith, here, e, deep))
