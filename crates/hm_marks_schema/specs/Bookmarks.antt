-- The tree of a file of bookmarks, which has two folders at the top: the bar, which a browser shows, and the others.
use Rattle.std.specs.Prelude.{◌≡◌, IsUtf8, [], ◌∷◌}
use Rattle.hm_tree.specs.Classes.{IsClean}
use Rattle.hm_tree.specs.Names.{Name}
use Rattle.hm_tree.specs.Nodes.{Tree, edges}
use Rattle.hm_marks.specs.Contents.{Contents}
use Rattle.hm_marks.specs.Layouts.{Layout, AreSound}
use Rattle.hm_marks.specs.FolderTrees.{IsContentsTree}
use Rattle.hm_marks.specs.Writing.{AreWrittenAnew}
use Rattle.hm_marks_schema.specs.Schema.{bar_name, other_name}

module _ {L F S : Type 0} (y : Layout L F) where
  -- the tree of what stands in the two
  pub record AreBookmarks (in_bar in_other : Contents L F S) (t : Tree) : Type 0 where
    pub bar_tree : Tree
    pub other_tree : Tree
    pub tree : edges t ≡ (bar_name, bar_tree) ∷ (other_name, other_tree) ∷ []
    pub bar : IsContentsTree y in_bar bar_tree
    pub other : IsContentsTree y in_other other_tree

  -- what stood in the two, written anew for a tree
  pub record AreBookmarksAnew (old_bar old_other : Contents L F S) (t : Tree) (new_bar new_other : Contents L F S) : Type 0 where
    pub bar_tree : Tree
    pub other_tree : Tree
    pub tree : edges t ≡ (bar_name, bar_tree) ∷ (other_name, other_tree) ∷ []
    pub bar : AreWrittenAnew y old_bar bar_tree new_bar
    pub other : AreWrittenAnew y old_other other_tree new_other

  -- the keys and addresses of all that stands in a folder, at each depth, are such texts
  abbrev HaveTexts : (Name → Type 0) → Contents L F S → Type 0
  HaveTexts P c = AreSound (λ l. P (y.link_key l) × P (y.address l)) (λ f. P (y.folder_key f)) (λ s. Unit {0}) c

  abbrev pub HaveCleanTexts : Contents L F S → Type 0
  HaveCleanTexts c = HaveTexts IsClean c

  abbrev pub HaveUtf8Texts : Contents L F S → Type 0
  HaveUtf8Texts c = HaveTexts IsUtf8 c
