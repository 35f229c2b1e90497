-- Beginnings of texts that leave many braces open.
use Rattle.std.specs.Prelude.{◌≡◌, ℕ, ◌+◌, Bool, true, T, List, [], ◌∷◌, ◌++◌, IsUtf8}
use Rattle.hm_tree_spelling.specs.Spelling.{spelled}
use Rattle.hm_tree.specs.Names.{Name}
use Rattle.hm_tree.specs.Nodes.{Node, edges}
use Rattle.hm_tree_text.specs.Text.{HasAllowedMarks, commas}
use Rattle.hm_tree_text.specs.Reading.{is_behind}

-- the bytes leave k braces open right behind their last brace: one alone; or one, some edges with a comma behind each,
-- a greater name, a colon, and bytes that leave all others open. A mark stands only where m allows it
pub data Opens (m : Bool) : ℕ → List ℕ → Type 0 where
  opens_one : (k : ℕ) (bytes : List ℕ) → k ≡ 1 → bytes ≡ 123 ∷ [] → Opens m k bytes
  opens_more : (k j : ℕ) (bytes inner : List ℕ) (t : Node true) (name : Name) → HasAllowedMarks m t.shape → IsUtf8 name
      → T (is_behind name (edges t)) → Opens m j inner → k ≡ j + 1 → bytes ≡ 123 ∷ (commas (edges t) ++ (spelled name ++ 58 ∷ inner))
      → Opens m k bytes

-- the bytes begin with such bytes, which leave 1,001 braces open
abbrev pub IsTooDeep : Bool → List ℕ → Type 0
IsTooDeep m bytes = (begun : List ℕ) × (rest : List ℕ) × Opens m 1001 begun × (bytes ≡ begun ++ rest)
