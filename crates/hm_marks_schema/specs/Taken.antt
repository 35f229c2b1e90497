-- Trees that items from before take while a folder of bookmarks is written anew.
use Rattle.std.specs.Prelude.{suc, List}
use Rattle.hm_tree.specs.Names.{Name, name_cmp}
use Rattle.hm_tree.specs.Nodes.{Tree, depth}
use Rattle.hm_book_items.specs.Items.{Each}
use Rattle.hm_book_items.specs.ItemTrees.{Lists, lists_depth}
use Rattle.hm_book_items.specs.Taken.{HasTaken}
use Rattle.hm_book_items.specs.declared.new_trees.NewTrees.{NewTrees}
use Rattle.hm_marks_schema.specs.Members.{IsGood}

-- lists of items of clean keys, no deeper than all of them
abbrev pub AreGood : Lists → Type 0
AreGood lists = Each name_cmp (λ (l : Name × List Tree). Each name_cmp (IsGood (suc (lists_depth depth lists)) l.0) l.1) lists

-- trees, of which items with these keys have taken theirs, are those of such lists
pub record HaveTaken (trees : NewTrees) (lists : Lists) (keys : List Name) : Type 0 where
  pub taken : HasTaken trees lists keys
  pub good : AreGood lists
