-- The head of a schema file: the first two of its lines that aren't skipped.
use Rattle.std.specs.Prelude.{◌≡◌, ℕ, true, List, [], ◌∷◌, codes, slice_get, Option, Some, None}
use Rattle.hm_tree.specs.Names.{Name}
use Rattle.hm_schema_lines.specs.declared.token.Token.TheVariants.{Word}
use Rattle.hm_schema_lines.specs.Tokens.{Spaced}
use Rattle.hm_schema_lines.specs.Entries.{EntryValue, texts_of}
use Rattle.hm_schema_lines.specs.BadLines.{is_counted, lines_before}

-- `harmony schema 1`
abbrev pub IsHeader : List ℕ → Type 0
IsHeader line = Spaced (Word (codes "harmony") ∷ Word (codes "schema") ∷ Word (codes "1") ∷ []) line

-- `root` and the name of a node
abbrev pub IsRoot : List ℕ → Name → Type 0
IsRoot line w = Spaced (Word (codes "root") ∷ Word w ∷ []) line

-- the same of a line of a file
abbrev pub IsHeaderAt : List ℕ → ℕ → Type 0
IsHeaderAt bytes i = (line : List ℕ) × (slice_get (texts_of bytes) i ≡ Some line) × IsHeader line

abbrev pub IsRootAt : List ℕ → ℕ → Name → Type 0
IsRootAt bytes i w = (line : List ℕ) × (slice_get (texts_of bytes) i ≡ Some line) × IsRoot line w

-- a line that isn't skipped, behind so many others that aren't
pub record IsNth (es : List EntryValue) (n i : ℕ) : Type 0 where
  pub entry : EntryValue
  pub is : slice_get es i ≡ Some entry
  pub counted : is_counted entry ≡ true
  pub before : lines_before es i ≡ n

-- the second line that isn't skipped names the node of the root
pub record NamesRoot (bytes : List ℕ) (es : List EntryValue) (w : Name) : Type 0 where
  pub place : ℕ
  pub second : IsNth es 1 place
  pub root : IsRootAt bytes place w

-- ---- what is read

abbrev pub IsReadRoot : (Name → Type 0) → Option Name → Type 0
IsReadRoot P None = (w : Name) → ¬ (P w)
IsReadRoot P (Some w) = P w
