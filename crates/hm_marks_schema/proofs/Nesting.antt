-- How many folders nest in the tree of bookmarks is how many nest in what stands in them.
use Rattle.std.proofs.Common.{◌≡◌, ℕ, ◌+◌, ◌≤◌, nat_lt, max, Bool, true, false, cond, T, All, List, [], ◌∷◌, get_or, Some, None, refl, sym, ap, subst, ◌∙◌, arith}
use denote.Param.Weighed.{most}
use Rattle.std.specs.Ordering.{eq_by_cmp}
use Rattle.std.specs.Option.{unwrap_or}
use Rattle.std.specs.FinMap.{find}
use Rattle.std.proofs.lemmas.Bool.{cond_both}
use Rattle.std.proofs.lemmas.Bool.Decides.{nat_tests}
use Rattle.std.proofs.lemmas.Option.{none-some}
use Rattle.std.proofs.lemmas.List.Elements.{All-head, All-tail}
use Rattle.hm_tree.specs.Names.{Name, name_cmp}
use Rattle.hm_tree.specs.Nodes.{Tree, Shape, bare, mark, edge, is_node, leads, second, edges, edges_of, depth, depth_of}
use Rattle.hm_tree.proofs.NameSets.{tied_self}
use Rattle.hm_tree_parts.specs.Edges.{IsEdge}
use Rattle.hm_tree_parts.specs.Lists.{HasItems, none_left, and_then, head, tail}
use Rattle.hm_tree_parts.proofs.OneList.{tail_head}
use Rattle.hm_book_items.specs.Items.{of_key, below_key, IsGrouped}
use Rattle.hm_book_items.specs.ItemTrees.{Lists, AreLists, IsItemTree}
use Rattle.hm_book_cards.proofs.BookTrees.{list_found}
use Rattle.hm_format.specs.Formats.{deepest, depth_over}
use Rattle.hm_format.proofs.Limits.{shallow}
use Rattle.hm_marks.specs.Contents.{Contents}
use Rattle.hm_marks.specs.Layouts.{Layout}
use Rattle.hm_marks.specs.FolderTrees.{url_name, folder_name, ShowItems, show_nothing, show_link, show_folder, hide_separator, IsContentsTree}
use Rattle.hm_marks_schema.specs.Bookmarks.{AreBookmarks}
use Rattle.hm_marks_schema.specs.Nesting.{Place, at_top, at_folder, at_list, at_item, at_link, below_place, folders_at, folders_in, folders_deep, nesting, most_folders, marks_over}

-- ---- by the edges of a tree

abbrev pub at_edge : Place → Name × Tree → ℕ
at_edge k e = folders_at k e.0 + folders_in (below_place k e.0) e.1.shape

in_edges : (k : Place) (w : Bool) (s : Shape) (h : T (is_node false w s)) → folders_in k s ≡ most (at_edge k) (edges_of {m = false} w s h)
unfolding edges_of
in_edges k w bare h = refl
in_edges k w mark h = refl
in_edges k w (edge n c r) h =
    ap (max (folders_at k n + folders_in (below_place k n) c)) (in_edges k false r (second (is_node false true c) _ (second (leads n r) _ h)))

pub by_edges : (k : Place) (t : Tree) → folders_in k t.shape ≡ most (at_edge k) (edges t)
unfolding edges
by_edges k t = in_edges k true t.shape t.sound

-- ---- items and lists

none_in_link : (s : Shape) → folders_in at_link s ≡ 0
none_in_link bare = refl
none_in_link mark = refl
none_in_link (edge n c r) = let below = none_in_link c in let beside = none_in_link r in omega (arith, below, beside)

url_folder : eq_by_cmp name_cmp url_name folder_name ≡ false
unfolding name_cmp
url_folder = refl

pub in_link : (v t : Tree) → IsEdge url_name v t → folders_in at_item t.shape ≡ 0
in_link v t is =
    by_edges at_item t ∙ ap (most (at_edge at_item)) is
    ∙ ap (λ b. max (cond b 1 0 + folders_in (cond b at_folder at_link) v.shape) 0) url_folder ∙ ap (λ n. max (0 + n) 0) (none_in_link v.shape)

pub in_folder : (u t : Tree) → IsEdge folder_name u t → folders_in at_item t.shape ≡ 1 + folders_in at_folder u.shape
in_folder u t is =
    by_edges at_item t ∙ ap (most (at_edge at_item)) is
    ∙ ap (λ b. max (cond b 1 0 + folders_in (cond b at_folder at_link) u.shape) 0) (tied_self folder_name)
    ∙ (let whole : max (1 + folders_in at_folder u.shape) 0 ≡ 1 + folders_in at_folder u.shape = omega arith in whole)

abbrev pub in_item : Tree → ℕ
in_item t = folders_in at_item t.shape

pub in_nil : (t : Tree) → edges t ≡ [] → folders_in at_list t.shape ≡ 0
in_nil t is = by_edges at_list t ∙ ap (most (at_edge at_list)) is

pub in_list : (x r t : Tree) → edges t ≡ (head, x) ∷ (tail, r) ∷ [] → folders_in at_list t.shape ≡ max (in_item x) (folders_in at_list r.shape)
in_list x r t is =
    by_edges at_list t ∙ ap (most (at_edge at_list)) is
    ∙ ap (λ b. max (0 + folders_in (cond b at_item at_list) x.shape) (max (0 + folders_in (cond (eq_by_cmp name_cmp tail head) at_item at_list) r.shape) 0)) (tied_self head)
    ∙ ap (λ b. max (0 + in_item x) (max (0 + folders_in (cond b at_item at_list) r.shape) 0)) tail_head
    ∙ without_zeros (in_item x) (folders_in at_list r.shape)
  where
    without_zeros : (a b : ℕ) → max (0 + a) (max (0 + b) 0) ≡ max a b
    without_zeros a b = omega arith

in_items : (xs : List Tree) (t : Tree) → HasItems t xs → folders_in at_list t.shape ≡ most in_item xs
in_items [] t (none_left is) = in_nil t is
in_items (x ∷ xs) t (and_then {r = r} is has) = in_list x r t is ∙ ap (max (in_item x)) (in_items xs r has)

-- ---- the lists of a folder

abbrev in_lists : Lists → ℕ
in_lists ls = most (λ l. most in_item l.1) ls

in_lists_of : (es : List (Name × Tree)) (ls : Lists) → AreLists es ls → most (at_edge at_folder) es ≡ in_lists ls
in_lists_of [] [] h = refl
in_lists_of [] (l ∷ ls) h = absurd h
in_lists_of (e ∷ es) [] h = absurd h
in_lists_of (e ∷ es) (l ∷ ls) h =
    let here = in_items l.1 e.1 h.0.1 in
    let others = in_lists_of es ls h.1 in
    omega (arith, here, others)

-- ---- items under their keys

module _ {X : Type 0} (f : X → ℕ) where
  most_all : (n : ℕ) (xs : List X) → All (λ x. f x ≤ n) xs → most f xs ≤ n
  most_all n [] all = omega arith
  most_all n (x ∷ xs) all =
      let here = All-head (λ x. f x ≤ n) x xs all in
      let rest = most_all n xs (All-tail (λ x. f x ≤ n) x xs all) in
      omega arith

  abbrev most_below : List (Name × X) → ℕ
  most_below xs = most (λ x. f x.1) xs

  abbrev most_lists : List (Name × List X) → ℕ
  most_lists ls = most (λ l. most f l.1) ls

  -- those with a key are among all
  key_among : (k : Name) (xs : List (Name × X)) → most f (of_key name_cmp k xs) ≤ most_below xs
  key_among k [] = omega arith
  key_among k (x ∷ xs) = go (eq_by_cmp name_cmp k x.0) (key_among k xs)
    where
      go : (b : Bool) → most f (of_key name_cmp k xs) ≤ most_below xs → most f (cond b (x.1 ∷ of_key name_cmp k xs) (of_key name_cmp k xs)) ≤ most_below (x ∷ xs)
      go true rest = omega (arith, rest)
      go false rest = omega (arith, rest)

  -- and all are with some key
  keys_bound : (n : ℕ) (xs : List (Name × X)) → ((k : Name) → most f (of_key name_cmp k xs) ≤ n) → most_below xs ≤ n
  keys_bound n [] each = omega arith
  keys_bound n (x ∷ xs) each =
      let here = subst (λ b. most f (cond b (x.1 ∷ of_key name_cmp x.0 xs) (of_key name_cmp x.0 xs)) ≤ n) (tied_self x.0) (each x.0) in
      let rest = keys_bound n xs (λ k. go k (eq_by_cmp name_cmp k x.0) (each k)) in
      omega (arith, here, rest)
    where
      go : (k : Name) (b : Bool) → most f (cond b (x.1 ∷ of_key name_cmp k xs) (of_key name_cmp k xs)) ≤ n → most f (of_key name_cmp k xs) ≤ n
      go k true h = omega (arith, h)
      go k false h = h

  -- what a list has is among what all lists have
  list_among : (k : Name) (ls : List (Name × List X)) → most f (below_key name_cmp k ls) ≤ most_lists ls
  list_among k [] = omega arith
  list_among k (l ∷ ls) = go (eq_by_cmp name_cmp k l.0) (list_among k ls)
    where
      go : (b : Bool) → most f (below_key name_cmp k ls) ≤ most_lists ls → most f (unwrap_or (cond b (Some l.1) (find name_cmp k ls)) []) ≤ most_lists (l ∷ ls)
      go true rest = omega arith
      go false rest = omega (arith, rest)

most_grouped : (f : Tree → ℕ) (items : List (Name × Tree)) (ls : Lists) → IsGrouped name_cmp items ls → most_lists f ls ≡ most_below f items
most_grouped f items ls grouped =
    let low : most_lists f ls ≤ most_below f items =
    most_all (λ (l : Name × List Tree). most f l.1) (most_below f items) ls
    (λ i d lt. subst (λ l. most f l ≤ most_below f items) (ap (λ o. unwrap_or o []) (list_found ls grouped.tree_is i d lt))
    (subst (λ l. most f l ≤ most_below f items) (sym (grouped.each (get_or ls i d).0)) (key_among f (get_or ls i d).0 items))) in
    let high : most_below f items ≤ most_lists f ls =
    keys_bound f (most_lists f ls) items (λ k. subst (λ l. most f l ≤ most_lists f ls) (grouped.each k) (list_among f k ls)) in
    omega (arith, low, high)

in_tree : (items : List (Name × Tree)) (t : Tree) → IsItemTree items t → folders_in at_folder t.shape ≡ most_below in_item items
in_tree items t is = by_edges at_folder t ∙ in_lists_of (edges t) is.lists is.below ∙ most_grouped in_item items is.lists is.grouped

-- ---- what stands in a folder

module _ {L F S : Type 0} (y : Layout L F) where
  in_contents : (c : Contents L F S) (xs : List (Name × Tree)) → ShowItems y c xs → most_below in_item xs ≡ nesting c
  in_contents _ _ show_nothing = refl
  in_contents _ _ (show_link {rest = rest} {t = t} {items = xs} is m) =
      let here = in_link is.value t is.below in
      let others = in_contents rest xs m in
      omega (arith, here, others)
  in_contents _ _ (show_folder {inside = inside} {rest = rest} {u = u} {t = t} {inner = inner} {items = xs} a tree is m) =
      let here = in_folder u t is in
      let within : folders_in at_folder u.shape ≡ nesting inside = in_tree inner u tree ∙ in_contents inside inner a in
      let others = in_contents rest xs m in
      omega (arith, here, within, others)
  in_contents _ _ (hide_separator {rest = rest} {items = xs} m) = in_contents rest xs m

  in_contents_tree : (c : Contents L F S) (t : Tree) → IsContentsTree y c t → folders_in at_folder t.shape ≡ nesting c
  in_contents_tree c t is = in_tree is.items t is.tree ∙ in_contents c is.items is.show

  pub folders_nest : (bar other : Contents L F S) (t : Tree) → AreBookmarks y bar other t → folders_deep t ≡ max (nesting bar) (nesting other)
  folders_nest bar other t is =
      let whole = by_edges at_top t ∙ ap (most (at_edge at_top)) is.tree in
      let b = in_contents_tree bar is.bar_tree is.bar in
      let o = in_contents_tree other is.other_tree is.other in
      omega (arith, whole, b, o)

-- ---- there is an edge at least for each folder

at_most_one : (k : Place) (n : Name) → folders_at k n ≤ 1
at_most_one at_top n = omega arith
at_most_one at_folder n = omega arith
at_most_one at_list n = omega arith
at_most_one at_item n = go (eq_by_cmp name_cmp n folder_name)
  where
    go : (b : Bool) → cond b 1 0 ≤ 1
    go true = omega arith
    go false = omega arith
at_most_one at_link n = omega arith

within_shape : (k : Place) (s : Shape) → folders_in k s ≤ depth_of s
within_shape k bare = omega arith
within_shape k mark = omega arith
within_shape k (edge n c r) =
    let one = at_most_one k n in
    let below = within_shape (below_place k n) c in
    let beside = within_shape k r in
    omega (arith, one, below, beside)

pub within_depth : (k : Place) (t : Tree) → folders_in k t.shape ≤ depth t
unfolding depth
within_depth k t = within_shape k t.shape

-- ---- within the limits

pub few_folders : (t : Tree) → marks_over t ≡ None → folders_deep t ≤ most_folders
few_folders t = cond_both (nat_lt most_folders (folders_deep t)) (Some (folders_deep t)) (depth_over t) (λ o. o ≡ None → folders_deep t ≤ most_folders)
    (λ is e. absurd (none-some (folders_deep t) (sym e))) (λ not e. grind (arith, nat_tests))

pub within_limits : (t : Tree) → marks_over t ≡ None → depth t ≤ deepest
within_limits t = cond_both (nat_lt most_folders (folders_deep t)) (Some (folders_deep t)) (depth_over t) (λ o. o ≡ None → depth t ≤ deepest)
    (λ is e. absurd (none-some (folders_deep t) (sym e))) (λ not e. shallow t e)

-- few folders nest in each of the two, where the tree is within the limits
pub few_in_each : {L F S : Type 0} (y : Layout L F) (bar other : Contents L F S) (t : Tree) → AreBookmarks y bar other t → marks_over t ≡ None
    → (nesting bar ≤ most_folders) × (nesting other ≤ most_folders)
few_in_each y bar other t is none =
    let few = few_folders t none in
    let whole = folders_nest y bar other t is in
    (omega (arith, few, whole), omega (arith, few, whole))
