-- Bookmarks whose keys and addresses are clean have trees that are members of the schema.
use Rattle.std.proofs.Common.{inl, inr, All, List}
use Rattle.std.proofs.lemmas.List.Elements.{All-nil, All-cons}
use Rattle.hm_tree.specs.Classes.{IsClean}
use Rattle.hm_tree.specs.Names.{Name}
use Rattle.hm_tree.specs.Nodes.{Tree}
use Rattle.hm_schema.specs.Membership.{IsMemberTree}
use Rattle.hm_book_cards.proofs.BookTrees.{items_entries}
use Rattle.hm_marks.specs.Contents.{Contents}
use Rattle.hm_marks.specs.Layouts.{Layout}
use Rattle.hm_marks.specs.FolderTrees.{ShowItems, show_nothing, show_link, show_folder, hide_separator, IsContentsTree}
use Rattle.hm_marks_schema.specs.Schema.{marks_schema}
use Rattle.hm_marks_schema.specs.Members.{IsAt}
use Rattle.hm_marks_schema.specs.Bookmarks.{AreBookmarks, HaveCleanTexts}
use Rattle.hm_marks_schema.proofs.Nodes.{entries_alike, link_alike}
use Rattle.hm_marks_schema.proofs.ItemNodes.{item_alike}
use Rattle.hm_marks_schema.proofs.TopNode.{top_alike}

abbrev AreKeys : List (Name × Tree) → Type 0
AreKeys xs = All (λ (x : Name × Tree). IsClean x.0) xs

abbrev AreItems : List (Name × Tree) → Type 0
AreItems xs = All (λ (x : Name × Tree). IsAt 3 x.1) xs

module _ {L F S : Type 0} (y : Layout L F) where
  abbrev Clean : Contents L F S → Type 0
  Clean c = HaveCleanTexts y c

  -- items of clean keys, each of which is a member at the node of items
  items_good : (c : Contents L F S) (xs : List (Name × Tree)) → Clean c → ShowItems y c xs → AreKeys xs × AreItems xs
  items_good _ _ clean show_nothing = (All-nil (λ (x : Name × Tree). IsClean x.0), All-nil (λ (x : Name × Tree). IsAt 3 x.1))
  items_good _ _ clean (show_link {l = l} {rest = rest} {t = t} {items = xs} is m) =
      let others = items_good rest xs clean.1 m in
      let mine : IsAt 3 t = item_alike.from t (inr (is.value, is.below, link_alike.from is.value (record { text = y.address l; is = is.text; clean = clean.0.1 }))) in (
        All-cons (λ (x : Name × Tree). IsClean x.0) (y.link_key l, t) xs clean.0.0 others.0,
        All-cons (λ (x : Name × Tree). IsAt 3 x.1) (y.link_key l, t) xs mine others.1,
      )
  items_good _ _ clean (show_folder {f = f} {inside = inside} {rest = rest} {u = u} {t = t} {inner = inner} {items = xs} a tree is m) =
      let within = items_good inside inner clean.1 a in
      let others = items_good rest xs clean.2 m in
      let mine : IsAt 3 t = item_alike.from t (inl (u, is, entries_alike.from u (items_entries IsClean (IsAt 3) inner u tree within.0 within.1))) in (
        All-cons (λ (x : Name × Tree). IsClean x.0) (y.folder_key f, t) xs clean.0 others.0,
        All-cons (λ (x : Name × Tree). IsAt 3 x.1) (y.folder_key f, t) xs mine others.1,
      )
  items_good _ _ clean (hide_separator {rest = rest} {items = xs} m) = items_good rest xs clean.1 m

  -- the tree of what stands in a folder is a member at the node of folders
  pub contents_member : (c : Contents L F S) (t : Tree) → Clean c → IsContentsTree y c t → IsAt 1 t
  contents_member c t clean is =
      let good = items_good c is.items clean is.show in
      entries_alike.from t (items_entries IsClean (IsAt 3) is.items t is.tree good.0 good.1)

  pub bookmarks_are_members : (bar other : Contents L F S) (t : Tree) → AreBookmarks y bar other t → Clean bar → Clean other → IsMemberTree marks_schema t
  bookmarks_are_members bar other t is clean_bar clean_other = top_alike.from t (record {
    bar_tree = is.bar_tree;
    other_tree = is.other_tree;
    tree = is.tree;
    bar = contents_member bar is.bar_tree clean_bar is.bar;
    other = contents_member other is.other_tree clean_other is.other;
  })
