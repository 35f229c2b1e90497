-- A folder has one tree at the most, and of a tree one folder is written.
use Rattle.std.proofs.Common.{◌≡◌, List, ◌∷◌, refl, subst}
use Rattle.hm_tree.specs.Names.{Name}
use Rattle.hm_tree.specs.Nodes.{Tree, edges}
use Rattle.hm_tree_parts.proofs.OneEdge.{one_edge, edge_one}
use Rattle.hm_book_items.specs.ItemTrees.{Lists, AreLists, IsItemTree}
use Rattle.hm_book_items.proofs.Laws.{lists_once, item_tree_once}
use Rattle.hm_marks.specs.Contents.{Contents, link, folder, separator}
use Rattle.hm_marks.specs.Layouts.{Layout}
use Rattle.hm_marks.specs.FolderTrees.{folder_name, IsFolderTree, ShowItems, show_nothing, show_link, show_folder, hide_separator, IsContentsTree}
use Rattle.hm_marks.specs.Pieces.{Piece, pieces}
use Rattle.hm_marks.specs.Writing.{link_for, folder_for, inside_of, AreMade, made_nothing, made_link, made_folder, made_separator, AreWrittenAnew}
use Rattle.hm_marks.proofs.OneLink.{one_address, one_link, not_both}

module _ {L F S : Type 0} (y : Layout L F) where
  -- ---- one tree

  pub items_once : (c : Contents L F S) (xs zs : List (Name × Tree)) → ShowItems y c xs → ShowItems y c zs → xs ≡ zs
  items_once _ _ _ show_nothing show_nothing = refl
  items_once _ _ _ (show_link {l = l} {rest = rest} {t = t} {items = xs} a m) (show_link {t = u} {items = zs} b n) =
      λ i. (y.link_key l, one_link (y.address l) t u a b i) ∷ items_once rest xs zs m n i
  items_once _ _ _ (show_folder {f = f} {inside = c} {rest = rest} {u = u} {t = t} {inner = xs} {items = more} a tree is m)
      (show_folder {u = v} {t = w} {inner = zs} {items = others} b other also n) =
      let trees : u ≡ v = item_tree_once zs u v (subst (λ l. IsItemTree l u) (items_once c xs zs a b) tree) other in
      let here : t ≡ w = edge_one folder_name v t w (subst (λ u. IsFolderTree u t) trees is) also in
      λ i. (y.folder_key f, here i) ∷ items_once rest more others m n i
  items_once _ _ _ (hide_separator {rest = rest} {items = xs} m) (hide_separator {items = zs} n) = items_once rest xs zs m n

  pub tree_once : (c : Contents L F S) (t u : Tree) → IsContentsTree y c t → IsContentsTree y c u → t ≡ u
  tree_once c t u a b = item_tree_once b.items t u (subst (λ l. IsItemTree l t) (items_once c a.items b.items a.show b.show) a.tree) b.tree

  -- ---- one folder is written

  pub made_once : (ps : List (Piece L F S)) (a b : Contents L F S) → AreMade y ps a → AreMade y ps b → a ≡ b
  made_once _ _ _ made_nothing made_nothing = refl
  made_once _ _ _ (made_link {x = x} {n = n} {ps = ps} {rest = a} key address tree m) (made_link {n = k} {rest = b} also other again m2) =
      λ i. link (link_for y x.0 x.1 (one_address n k x.2 tree again i)) (made_once ps a b m m2 i)
  made_once _ _ _ (made_link {x = x} {n = n} key address tree m) (made_folder {u = u} also is below is_tree mine m2) = absurd (not_both n u x.2 tree is)
  made_once _ _ _ (made_folder {x = x} {u = u} key is below is_tree mine m) (made_link {n = n} also other tree m2) = absurd (not_both n u x.2 tree is)
  made_once _ _ _ (made_folder {x = x} {u = u} {lists = ls} {ps = ps} {inside = c} {rest = a} key is below is_tree mine m)
      (made_folder {u = v} {lists = ms} {inside = d} {rest = b} also again under is_tree_too mine_too m2) =
      let trees : u ≡ v = one_edge folder_name u v x.2 is again in
      let lists : ls ≡ ms = lists_once (edges v) ls ms (subst (λ t. AreLists (edges t) ls) trees below) under in
      let inner : c ≡ d =
      made_once (pieces y ms (inside_of y x.1)) c d (subst (λ (l : Lists). AreMade y (pieces y l (inside_of y x.1)) c) lists mine) mine_too in
      λ i. folder (folder_for y x.0 x.1) (inner i) (made_once ps a b m m2 i)
  made_once _ _ _ (made_separator {s = s} {ps = ps} {rest = a} m) (made_separator {rest = b} m2) = λ i. separator s (made_once ps a b m m2 i)

  pub anew_once : (old : Contents L F S) (t : Tree) (a b : Contents L F S) → AreWrittenAnew y old t a → AreWrittenAnew y old t b → a ≡ b
  anew_once old t a b m n =
      let lists : m.lists ≡ n.lists = lists_once (edges t) m.lists n.lists m.below n.below in
      made_once (pieces y n.lists old) a b (subst (λ (l : Lists). AreMade y (pieces y l old) a) lists m.made) n.made
