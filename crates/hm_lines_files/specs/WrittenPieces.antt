-- What is written of a file's components for lists of trees.
use Rattle.std.specs.Prelude.{◌≡◌, ◌≢◌, ℕ, Vec, Option, MatchOption}
use Rattle.std.specs.declared.alloc.Global.{Global}
use Rattle.hm_book_cards.specs.Cards.{Shown}
use Rattle.hm_lines.specs.Folding.{AreFolded}
use Rattle.hm_lines_files.specs.Components.{Layout, all_lines}
use Rattle.hm_lines_files.specs.Rewriting.{Template, rewritten_layout}
use Rattle.hm_book_items.specs.ItemTrees.{Lists}

-- the lines of the new file, folded; or nothing, where they are those from before
abbrev pub IsAnew : Template → Shown → Lists → Layout → Option (Vec ℕ Global) → Type 0
IsAnew template shown lists old text =
    let new = all_lines (rewritten_layout template shown lists old) in
    MatchOption text (new ≡ all_lines old) (λ text. (new ≢ all_lines old) × AreFolded new text.items)
