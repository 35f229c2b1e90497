-- Bookmarks whose keys and addresses are UTF-8 have a tree.
use Rattle.std.proofs.Common.{T, IsUtf8, List, [], ◌∷◌, refl}
use Rattle.std.specs.Str.{is_utf8}
use Rattle.hm_existence.specs.Existence.{IsThere}
use Rattle.hm_existence.proofs.Existence.{from_one}
use Rattle.hm_tree.specs.Names.{Name}
use Rattle.hm_tree.specs.Nodes.{Tree, node, empty, are_texts, both, edges_cons}
use Rattle.hm_tree.specs.NodeLaws.{edges-node}
use Rattle.hm_tree.proofs.Texts.{ascii_test, text_test}
use Rattle.hm_tree_parts.specs.Edges.{IsEdge}
use Rattle.hm_book_items.proofs.Contents.{some_tree as some_item_tree}
use Rattle.hm_marks.specs.Contents.{Contents, nothing, link, folder, separator}
use Rattle.hm_marks.specs.Layouts.{Layout}
use Rattle.hm_marks.specs.FolderTrees.{url_name, folder_name, IsLinkTree, ShowItems, show_nothing, show_link, show_folder, hide_separator, IsContentsTree}
use Rattle.hm_marks_schema.specs.Bookmarks.{AreBookmarks, HaveUtf8Texts}
use Rattle.hm_marks_schema.proofs.TopNode.{some_both}

some_edge : (n : Name) (x : Tree) → T (is_utf8 n) → (t : Tree) × IsEdge n x t
some_edge n x text = (node ((n, x) ∷ []), edges-node ((n, x) ∷ []) (edges_cons (n, x) [] text tt tt))

some_link : (address : Name) → IsUtf8 address → (t : Tree) × IsLinkTree address t
some_link address text =
    let value = some_edge address empty (text_test address text) in
    let whole = some_edge url_name value.0 (ascii_test url_name refl) in
    (whole.0, record { value = value.0; below = whole.1; text = value.1 })

module _ {L F S : Type 0} (y : Layout L F) where
  record HasItems (c : Contents L F S) : Type 0 where
    items : List (Name × Tree)
    show : ShowItems y c items
    texts : T (are_texts items)

  some_items : (c : Contents L F S) → HaveUtf8Texts y c → HasItems c
  some_items nothing h = record { items = []; show = show_nothing; texts = tt }
  some_items (link l rest) h =
      let mine = some_link (y.address l) h.0.1 in
      let others = some_items rest h.1 in
      record {
        items = (y.link_key l, mine.0) ∷ others.items;
        show = show_link mine.1 others.show;
        texts = both _ _ (text_test (y.link_key l) h.0.0) others.texts;
      }
  some_items (folder f inside rest) h =
      let within = some_items inside h.1 in
      let u = some_item_tree within.items within.texts in
      let mine = some_edge folder_name u.0 (ascii_test folder_name refl) in
      let others = some_items rest h.2 in
      record {
        items = (y.folder_key f, mine.0) ∷ others.items;
        show = show_folder within.show u.1 mine.1 others.show;
        texts = both _ _ (text_test (y.folder_key f) h.0) others.texts;
      }
  some_items (separator s rest) h =
      let others = some_items rest h.1 in
      record { items = others.items; show = hide_separator others.show; texts = others.texts }

  some_contents : (c : Contents L F S) → HaveUtf8Texts y c → (t : Tree) × IsContentsTree y c t
  some_contents c h =
      let mine = some_items c h in
      let t = some_item_tree mine.items mine.texts in
      (t.0, record { items = mine.items; show = mine.show; tree = t.1 })

  pub tree_of_both : (bar other : Contents L F S) → HaveUtf8Texts y bar → HaveUtf8Texts y other → (t : Tree) × AreBookmarks y bar other t
  tree_of_both bar other bar_texts other_texts =
      let b = some_contents bar bar_texts in
      let o = some_contents other other_texts in
      let whole = some_both b.0 o.0 in
      (whole.0, record { bar_tree = b.0; other_tree = o.0; tree = whole.1; bar = b.1; other = o.1 })

  pub some_tree : (bar other : Contents L F S) → HaveUtf8Texts y bar → HaveUtf8Texts y other → IsThere (AreBookmarks y bar other)
  some_tree bar other bar_texts other_texts =
      let whole = tree_of_both bar other bar_texts other_texts in
      from_one (AreBookmarks y bar other) whole.0 whole.1
