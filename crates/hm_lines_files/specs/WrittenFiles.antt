-- What is written of a tree behind a file of which the layout is known.
use Rattle.std.specs.Prelude.{◌≡◌, ◌≢◌, ◌⊎◌, T, ℕ, List}
use Rattle.std.specs.FinMap.{is_sorted}
use Rattle.hm_tree.specs.Names.{Name, name_cmp}
use Rattle.hm_tree.specs.Nodes.{Tree, edges}
use Rattle.hm_book_items.specs.ItemTrees.{AreLists}
use Rattle.hm_book_cards.specs.Cards.{Shown}
use Rattle.hm_lines.specs.Folding.{AreFolded}
use Rattle.hm_lines_files.specs.Components.{Layout, all_lines}
use Rattle.hm_lines_files.specs.Rewriting.{Template, IsRewritten}

-- below the names of a tree stand lists, and the names rise
abbrev pub ListsRise : Tree → Type 0
ListsRise t = (lists : List (Name × List Tree)) → AreLists (edges t) lists → T (is_sorted name_cmp lists)

-- the bytes from before where the lines stay, or else the new lines, folded
pub record IsWritten (template : Template) (shown : Shown) (t : Tree) (old : Layout) (before after : List ℕ) : Type 0 where
  pub new : Layout
  pub rewritten : IsRewritten template shown t old new
  pub text : ((all_lines new ≡ all_lines old) × (after ≡ before)) ⊎ ((all_lines new ≢ all_lines old) × AreFolded (all_lines new) after)
