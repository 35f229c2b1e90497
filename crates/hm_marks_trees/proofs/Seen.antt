-- What a format keeps of bookmarks shows what is seen of it.
use Rattle.std.proofs.Common.{◌≡◌, ◌+◌, max, List, refl}
use Rattle.hm_tree.specs.Names.{Name}
use Rattle.hm_tree.specs.Nodes.{Tree}
use Rattle.hm_marks.specs.Contents.{Contents, nothing, link, folder, separator}
use Rattle.hm_marks.specs.Layouts.{Layout}
use Rattle.hm_marks.specs.FolderTrees.{ShowItems, show_nothing, show_link, show_folder, hide_separator, IsContentsTree}
use Rattle.hm_marks_schema.specs.Bookmarks.{AreBookmarks}
use Rattle.hm_marks_schema.specs.Nesting.{nesting}
use Rattle.hm_marks_trees.specs.Nodes.{plain, seen}

module _ {L F S : Type 0} (y : Layout L F) where
  seen_shows : (c : Contents L F S) (xs : List (Name × Tree)) → ShowItems plain (seen y c) xs → ShowItems y c xs
  seen_shows nothing _ show_nothing = show_nothing
  seen_shows (link l rest) _ (show_link {items = xs} is m) = show_link is (seen_shows rest xs m)
  seen_shows (folder f inside rest) _ (show_folder {inner = inner} {items = xs} a tree is m) = show_folder (seen_shows inside inner a) tree is (seen_shows rest xs m)
  seen_shows (separator s rest) xs m = hide_separator (seen_shows rest xs m)

  shows_seen : (c : Contents L F S) (xs : List (Name × Tree)) → ShowItems y c xs → ShowItems plain (seen y c) xs
  shows_seen _ _ show_nothing = show_nothing
  shows_seen _ _ (show_link {rest = rest} {items = xs} is m) = show_link is (shows_seen rest xs m)
  shows_seen _ _ (show_folder {inside = inside} {rest = rest} {inner = inner} {items = xs} a tree is m) = show_folder (shows_seen inside inner a) tree is (shows_seen rest xs m)
  shows_seen _ _ (hide_separator {rest = rest} {items = xs} m) = shows_seen rest xs m

  -- the same tree
  pub seen_tree : (c : Contents L F S) (t : Tree) → IsContentsTree plain (seen y c) t → IsContentsTree y c t
  seen_tree c t is = record { items = is.items; show = seen_shows c is.items is.show; tree = is.tree }

  pub tree_seen : (c : Contents L F S) (t : Tree) → IsContentsTree y c t → IsContentsTree plain (seen y c) t
  tree_seen c t is = record { items = is.items; show = shows_seen c is.items is.show; tree = is.tree }

  pub seen_bookmarks : (bar other : Contents L F S) (t : Tree) → AreBookmarks plain (seen y bar) (seen y other) t → AreBookmarks y bar other t
  seen_bookmarks bar other t is =
      record { bar_tree = is.bar_tree; other_tree = is.other_tree; tree = is.tree; bar = seen_tree bar is.bar_tree is.bar; other = seen_tree other is.other_tree is.other }

  pub bookmarks_seen : (bar other : Contents L F S) (t : Tree) → AreBookmarks y bar other t → AreBookmarks plain (seen y bar) (seen y other) t
  bookmarks_seen bar other t is =
      record { bar_tree = is.bar_tree; other_tree = is.other_tree; tree = is.tree; bar = tree_seen bar is.bar_tree is.bar; other = tree_seen other is.other_tree is.other }

  -- and as many folders
  pub seen_nesting : (c : Contents L F S) → nesting (seen y c) ≡ nesting c
  seen_nesting nothing = refl
  seen_nesting (link l rest) = seen_nesting rest
  seen_nesting (folder f inside rest) = λ i. max (1 + seen_nesting inside i) (seen_nesting rest i)
  seen_nesting (separator s rest) = seen_nesting rest
