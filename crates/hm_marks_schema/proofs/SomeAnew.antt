-- Bookmarks can be written anew for each member of the schema.
use Rattle.std.proofs.Common.{◌<◌, ◌⊎◌, inl, inr, ℕ, zero, suc, All, List, [], ◌∷◌, subst, arith}
use Rattle.std.specs.Prelude.{IfSome}
use Rattle.std.proofs.lemmas.List.Elements.{All-head, All-tail}
use Rattle.hm_existence.specs.Existence.{IsThere}
use Rattle.hm_existence.proofs.Existence.{from_one}
use Rattle.hm_tree.specs.Classes.{IsClean}
use Rattle.hm_tree.specs.Names.{Name, name_cmp}
use Rattle.hm_tree.specs.Nodes.{Tree, depth, edges, deepest}
use Rattle.hm_tree.specs.NodeLaws.{depth-edges}
use Rattle.hm_tree.proofs.Depths.{depth_below}
use Rattle.hm_tree.proofs.Sorted.{name_total, name_one}
use Rattle.hm_schema.specs.Membership.{IsMemberTree}
use Rattle.hm_tree_parts.specs.Edges.{IsEdge}
use Rattle.hm_tree_parts.specs.Lists.{HasItems, and_then, head, tail}
use Rattle.hm_tree_parts.proofs.OneEdge.{below-edge}
use Rattle.hm_tree_parts.proofs.OneList.{below-head, below-tail}
use Rattle.hm_book_items.specs.Items.{Each}
use Rattle.hm_book_items.specs.ItemTrees.{Lists, AreLists}
use Rattle.hm_book_items.proofs.Fitting.{all_fit}
use Rattle.hm_marks.specs.Contents.{Contents, nothing, link, folder, separator, Item}
use Rattle.hm_marks.specs.Layouts.{Layout, items_of}
use Rattle.hm_marks.specs.FolderTrees.{folder_name, url_name}
use Rattle.hm_marks.specs.Pieces.{NewItem, Piece, an_item, a_separator, new_items, pieces}
use Rattle.hm_marks.specs.Writing.{link_for, folder_for, inside_of, AreMade, made_nothing, made_link, made_folder, made_separator, AreWrittenAnew}
use Rattle.hm_marks.proofs.Pieces.{pieces_rewritten}
use Rattle.hm_marks_schema.specs.Schema.{marks_schema}
use Rattle.hm_marks_schema.specs.Members.{IsAt, IsFolderOf, IsGood}
use Rattle.hm_marks_schema.specs.Bookmarks.{AreBookmarksAnew}
use Rattle.hm_marks_schema.proofs.Nodes.{folder_alike, link_alike}
use Rattle.hm_marks_schema.proofs.ItemNodes.{item_alike}
use Rattle.hm_marks_schema.proofs.TopNode.{top_alike}

-- ---- the items in the lists of a folder

-- the items of a list are less deep than it
less_deep : (n : ℕ) (k : Name) (xs : List Tree) (t : Tree) → HasItems t xs → IsClean k → All (IsAt 3) xs → depth t < n → Each name_cmp (IsGood n k) xs
less_deep n k [] t has key all lt = tt
less_deep n k (x ∷ xs) t (and_then {r = r} is has) key all lt =
    let first = depth_below head t x (below-head x r t is) in
    let rest = depth_below tail t r (below-tail x r t is) in (
      record { key = key; item = All-head (IsAt 3) x xs all; less = omega arith },
      less_deep n k xs r has key (All-tail (IsAt 3) x xs all) (omega arith),
    )

-- and so are those in the lists of a tree
pub all_good : (n : ℕ) (es : List (Name × Tree)) (ls : Lists) → AreLists es ls → All (λ (l : Name × List Tree). IsClean l.0) ls
    → All (λ (l : Name × List Tree). All (IsAt 3) l.1) ls → deepest es < n → Each name_cmp (λ l. Each name_cmp (IsGood n l.0) l.1) ls
all_good n [] [] h keys items lt = tt
all_good n [] (l ∷ ls) h keys items lt = absurd h
all_good n (e ∷ es) [] h keys items lt = absurd h
all_good n (e ∷ es) (l ∷ ls) h keys items lt = (
  less_deep n l.0 l.1 e.1 h.0.1 (All-head (λ (l : Name × List Tree). IsClean l.0) l ls keys)
      (All-head (λ (l : Name × List Tree). All (IsAt 3) l.1) l ls items) (omega arith),
  all_good n es ls h.1 (All-tail (λ (l : Name × List Tree). IsClean l.0) l ls keys) (All-tail (λ (l : Name × List Tree). All (IsAt 3) l.1) l ls items)
      (omega arith),
)

module _ {L F S : Type 0} (y : Layout L F) where
  abbrev GoodItems : ℕ → List (NewItem L F S) → Type 0
  GoodItems n xs = Each name_cmp (λ (x : NewItem L F S). IsGood n x.0 x.2) xs

  abbrev IsAny : Name → Item L F S → Type 0
  IsAny k i = Unit {0}

  old_any : (xs : List (Name × Item L F S)) → Each name_cmp (λ x. IsAny x.0 x.1) xs
  old_any [] = tt
  old_any (x ∷ xs) = (tt, old_any xs)

  only_good : (n : ℕ) (xs : List (NewItem L F S)) → Each name_cmp (λ (x : NewItem L F S). IsGood n x.0 x.2 × IfSome x.1 (IsAny x.0)) xs → GoodItems n xs
  only_good n [] h = tt
  only_good n (x ∷ xs) h = (h.0.0, only_good n xs h.1)

  -- the pieces for a folder
  pieces_good : (n : ℕ) (old : Contents L F S) (t : Tree) (h : IsFolderOf (IsAt 3) t) → depth t < n → GoodItems n (new_items (pieces y h.lists old))
  pieces_good n old t h lt =
      only_good n (new_items (pieces y h.lists old))
      (all_fit name_cmp name_total name_one (IsGood n) IsAny (items_of y old) h.lists (new_items (pieces y h.lists old))
      (all_good n (edges t) h.lists h.below h.keys h.items (subst (λ d. d < n) (depth-edges t) lt)) (old_any (items_of y old)) (pieces_rewritten y h.lists old))

  -- ---- what is made of pieces

  abbrev IsMade : List (Piece L F S) → Type 0
  IsMade ps = (new : Contents L F S) × AreMade y ps new

  -- where it is known for pieces of items that are less deep
  made_from : (n : ℕ) → ((ps : List (Piece L F S)) → GoodItems n (new_items ps) → IsMade ps) → (ps : List (Piece L F S)) → GoodItems (suc n) (new_items ps) → IsMade ps
  made_from n within [] good = (nothing, made_nothing)
  made_from n within (a_separator s ∷ ps) good = let rest = made_from n within ps good in (separator s rest.0, made_separator rest.1)
  made_from n within (an_item x ∷ ps) good = go (made_from n within ps good.1) (item_alike.into x.2 good.0.item)
    where
      go : IsMade ps → ((u : Tree) × IsEdge folder_name u x.2 × IsAt 1 u) ⊎ ((v : Tree) × IsEdge url_name v x.2 × IsAt 4 v) → IsMade (an_item x ∷ ps)
      go rest (inr (v, is, member)) =
          let a = link_alike.into v member in (
            link (link_for y x.0 x.1 a.text) rest.0,
            made_link good.0.key a.clean (record { value = v; below = is; text = a.is }) rest.1,
          )
      go rest (inl (u, is, member)) =
          let h = folder_alike.into u member in
          let less = depth_below folder_name x.2 u (below-edge folder_name u x.2 is) in
          let inside = within (pieces y h.lists (inside_of y x.1)) (pieces_good n (inside_of y x.1) u h (let here = good.0.less in omega arith)) in (
            folder (folder_for y x.0 x.1) inside.0 rest.0,
            made_folder good.0.key is h.below h.tree inside.1 rest.1,
          )

  made : (n : ℕ) (ps : List (Piece L F S)) → GoodItems n (new_items ps) → IsMade ps
  made zero ps good = none ps good
    where
      none : (ps : List (Piece L F S)) → GoodItems 0 (new_items ps) → IsMade ps
      none [] good = (nothing, made_nothing)
      none (a_separator s ∷ ps) good = let rest = none ps good in (separator s rest.0, made_separator rest.1)
      none (an_item x ∷ ps) good = let less = good.0.less in absurd (omega arith)
  made (suc n) ps good = made_from n (made n) ps good

  pub folder_anew : (old : Contents L F S) (t : Tree) → IsAt 1 t → (new : Contents L F S) × AreWrittenAnew y old t new
  folder_anew old t member =
      let h = folder_alike.into t member in
      let m = made (suc (depth t)) (pieces y h.lists old) (pieces_good (suc (depth t)) old t h (omega arith)) in
      (m.0, record { lists = h.lists; below = h.below; tree = h.tree; made = m.1 })

  abbrev IsAnew : Contents L F S → Contents L F S → Tree → Contents L F S × Contents L F S → Type 0
  IsAnew old_bar old_other t new = AreBookmarksAnew y old_bar old_other t new.0 new.1

  pub some_anew : (old_bar old_other : Contents L F S) (t : Tree) → IsMemberTree marks_schema t → IsThere (IsAnew old_bar old_other t)
  some_anew old_bar old_other t member =
      let h = top_alike.into t member in
      let b = folder_anew old_bar h.bar_tree h.bar in
      let o = folder_anew old_other h.other_tree h.other in
      from_one (IsAnew old_bar old_other t) (b.0, o.0)
      (record { bar_tree = h.bar_tree; other_tree = h.other_tree; tree = h.tree; bar = b.1; other = o.1 })
