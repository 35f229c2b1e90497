-- What the readers of a part of a line say.
use Rattle.std.specs.Prelude.{◌≡◌, ◌≢◌, false, ℕ, ◌≤◌, List, [], ◌∷◌, ◌++◌, length, take, drop, Option, Some, None, IsUtf8}
use Rattle.hm_tree.specs.Names.{Name}
use Rattle.hm_tree_spelling.specs.Spelling.{spelled}
use Rattle.hm_schema_lines.specs.declared.token.Token.{Token}
use Rattle.hm_schema_lines.specs.declared.token.Token.TheVariants.{Word, Quoted, Question, Plus}
use Rattle.hm_schema_lines.specs.Tokens.{token_text, IsToken, Stops, begins_word}

-- the word at the front of bytes, and its length; none where no byte of a word stands there
abbrev pub IsFirstWord : List ℕ → Option (Token × ℕ) → Type 0
IsFirstWord bytes None = begins_word bytes ≡ false
IsFirstWord bytes (Some found) = IsToken found.0 × (found.1 ≤ length bytes) × (take found.1 bytes ≡ token_text found.0)
    × Stops found.0 (drop found.1 bytes)

-- the name between quotes at the front of bytes, and the length of its spelling; none where no spelling stands there
abbrev pub IsFirstQuoted : List ℕ → Option (Token × ℕ) → Type 0
IsFirstQuoted bytes None = (name : Name) (rest : List ℕ) → IsUtf8 name → bytes ≢ spelled name ++ rest
IsFirstQuoted bytes (Some found) = IsToken found.0 × (found.1 ≤ length bytes) × (take found.1 bytes ≡ token_text found.0)
    × Stops found.0 (drop found.1 bytes)

-- ---- the parts of a shape

abbrev pub Read : Type 0
Read = List Name × List Token

abbrev pub and_name : Name → Read → Read
and_name k r = (k ∷ r.0, r.1)

-- the names at the front of tokens, and the tokens behind them
abbrev pub names_at : List Token → Read
names_at [] = ([], [])
names_at (Word w ∷ ts) = and_name w (names_at ts)
names_at (Quoted k ∷ ts) = and_name k (names_at ts)
names_at (Question ∷ ts) = ([], Question ∷ ts)
names_at (Plus ∷ ts) = ([], Plus ∷ ts)

-- the names behind a question mark, and the tokens behind these; no names without a question mark
abbrev pub optional_at : List Token → Read
optional_at [] = ([], [])
optional_at (Word w ∷ ts) = ([], Word w ∷ ts)
optional_at (Quoted k ∷ ts) = ([], Quoted k ∷ ts)
optional_at (Question ∷ ts) = names_at ts
optional_at (Plus ∷ ts) = ([], Plus ∷ ts)
