use Rattle.std.proofs.Common.{◌+◌, ◌*◌, ◌≤◌, ℕ, List, map, take, length, IsUtf8}
use denote.Param.Weighed.{most}
use Rattle.hm_tree.specs.Names.{name_cmp}
use Rattle.hm_tree.specs.Nodes.{depth}
use Rattle.hm_book_items.specs.Items.{fresh, added}
use Rattle.hm_book_items.specs.ItemTrees.{Lists, lists_depth}
use Rattle.hm_book_items.specs.Lent.{lent_lists}
use Rattle.hm_marks.specs.Pieces.{an_item}
use Rattle.hm_marks_tokens.specs.Symbols.{Symbol}
use Rattle.hm_marks_tokens.specs.Grammar.{Contents}
use Rattle.hm_netscape_entries.specs.Next.{IsLeft}
use Rattle.hm_netscape_writing.specs.Added.{Before, Adds, HaveRoom}
use Rattle.hm_netscape_writing.proofs.Staying.{ArePast}
use Rattle.hm_netscape_writing.proofs.folders.+folders.Given as goal

abbrev pub decreases-add_folder : goal.decreases-add_folder
decreases-add_folder l = 8 * depth l.tree.now + 7

abbrev pub decreases-add_old : goal.decreases-add_old
decreases-add_old l = 8 * lists_depth depth (lent_lists l.trees.now.lists.now) + 6

abbrev pub decreases-add_over : goal.decreases-add_over
decreases-add_over l = 8 * lists_depth depth (lent_lists l.trees.now.lists.now) + 5

abbrev pub decreases-add_over_link : goal.decreases-add_over_link
decreases-add_over_link l = 8 * lists_depth depth (lent_lists l.trees.now.lists.now) + 4

abbrev pub decreases-add_over_folder : goal.decreases-add_over_folder
decreases-add_over_folder l = 8 * lists_depth depth (lent_lists l.trees.now.lists.now) + 4

abbrev pub decreases-add_kept_folder : goal.decreases-add_kept_folder
decreases-add_kept_folder l = 8 * depth l.tree.now + 8

abbrev pub decreases-add_new_folder : goal.decreases-add_new_folder
decreases-add_new_folder l = 8 * depth l.tree.now + 8

abbrev pub decreases-add_new : goal.decreases-add_new
decreases-add_new l = 8 * lists_depth depth (lent_lists l.trees.now.lists.now) + 6

abbrev pub decreases-add_with_key : goal.decreases-add_with_key
decreases-add_with_key l = 8 * most depth (map (λ t. t.now) l.trees.now) + 5

abbrev pub decreases-add_new_item : goal.decreases-add_new_item
decreases-add_new_item l = 8 * depth l.tree.now + 2

-- what is left of the folder, and what became of all before it
abbrev pub invariant-add_old-loop-out : goal.invariant-add_old-loop-out
invariant-add_old-loop-out l = record {
  utf8 : IsUtf8 l.rest;
  within : length l.rest ≤ length l.old;
  past : (lists : Lists) (before : Before) (c : Contents) (more : List Symbol) (rest : List ℕ) → HaveRoom l.level l.fn.trees lists before → IsLeft l.old c more rest
      → ArePast l.level lists before c l.trees l.fn.out.items l.out.items l.rest more rest;
}

abbrev pub decreases-add_old-loop-out : goal.decreases-add_old-loop-out
decreases-add_old-loop-out l = length l.rest

abbrev pub invariant-add_new-loop-edge : goal.invariant-add_new-loop-edge
invariant-add_new-loop-edge l =
    (lists : Lists) (before : Before) → HaveRoom l.level l.trees lists before → Adds l.level l.fn.out.items l.out.items (map an_item (added name_cmp before (take l.edge lists)))

abbrev pub invariant-add_with_key-loop-tree : goal.invariant-add_with_key-loop-tree
invariant-add_with_key-loop-tree l =
    Adds l.level l.fn.out.items l.out.items (map an_item (fresh name_cmp l.key (map (λ t. t.now) (take l.tree-index l.trees))))
