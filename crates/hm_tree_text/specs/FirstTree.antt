-- The tree at the front of bytes.
use Rattle.std.specs.Prelude.{◌≡◌, ◌≢◌, ℕ, ◌≤◌, List, ◌++◌, length, take, Option, Some, None}
use Rattle.hm_tree.specs.Nodes.{Tree, depth}
use Rattle.hm_tree_text.specs.Text.{whole, text}

-- a tree whose text stands at the front, and the length of that text; none where no tree's does that is shallow enough
abbrev pub IsFirstTree : List ℕ → Option (Tree × ℕ) → Type 0
IsFirstTree bytes None = (t : Tree) (rest : List ℕ) → depth t ≤ 1000 → bytes ≢ text whole t.shape ++ rest
IsFirstTree bytes (Some found) = (depth found.0 ≤ 1000) × (found.1 ≤ length bytes) × (take found.1 bytes ≡ text whole found.0.shape)
