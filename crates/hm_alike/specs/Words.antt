-- Words that are put one behind the other.
use Rattle.std.specs.Prelude.{[], ◌∷◌, ◌++◌}
use Rattle.hm_tree.specs.Names.{Name}

-- a text with a word more, behind a space if something stands before it; an empty word adds nothing
abbrev pub with_word : Name → Name → Name
with_word [] word = word
with_word (b ∷ text) [] = b ∷ text
with_word (b ∷ text) (d ∷ word) = (b ∷ text) ++ 32 ∷ d ∷ word
