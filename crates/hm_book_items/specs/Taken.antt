-- The trees that items are to show, of which those from before take one after another.
use Rattle.std.specs.Prelude.{◌≡◌, ℕ, List, [], get_or, T}
use Rattle.std.specs.FinMap.{is_sorted}
use Rattle.hm_tree.specs.Names.{Name, name_cmp}
use Rattle.hm_tree.specs.Nodes.{Tree}
use Rattle.hm_book_items.specs.LentKeys.{lent_counts}
use Rattle.hm_book_items.specs.Plans.{wanted_of, AreCounts}
use Rattle.hm_book_items.specs.Lent.{lent_lists}
use Rattle.hm_book_items.specs.declared.new_trees.NewTrees.{NewTrees}
use Rattle.hm_book_items.specs.ItemTrees.{Lists}

abbrev pub list_at : Lists → ℕ → Name × List Tree
list_at lists edge = get_or lists edge ([], [])

-- of these lists items with these keys have taken theirs
pub record HasTaken (t : NewTrees) (lists : Lists) (keys : List Name) : Type 0 where
  pub lists_are : lent_lists t.lists.now ≡ lists
  pub rise : T (is_sorted name_cmp lists)
  pub wanted_are : lent_counts t.wanted.items ≡ wanted_of lists
  pub counts_are : AreCounts (wanted_of lists) keys t.counts.items
