-- The lines of a file: skipped ones, those of nodes, and others, which the file itself has to know.
use Rattle.std.specs.Prelude.{◌≡◌, ◌⊎◌, ℕ, All, List, map, slice_get, Some}
use Rattle.std.specs.List.{AllZip}
use Rattle.bstr.specs.Text.{lines_of, without_terminator}
use Rattle.hm_schema_lines.specs.declared.entry.Entry.{Entry}
use Rattle.hm_schema_lines.specs.declared.entry.Entry.TheVariants.{Skipped, Unknown, Says}
use Rattle.hm_schema_lines.specs.NodeLines.{NodeLineValue, node_line_value, IsNodeLine}

-- empty, or of spaces alone
abbrev pub IsBlank : List ℕ → Type 0
IsBlank line = All (λ b. b ≡ 32) line

-- a blank line, or a comment
abbrev pub IsSkipped : List ℕ → Type 0
IsSkipped line = (slice_get line 0 ≡ Some 35) ⊎ IsBlank line

-- what a line is read as; an unknown one is of no node
pub data EntryValue : Type 0 where
  skipped : EntryValue
  unknown : EntryValue
  says : NodeLineValue → EntryValue

abbrev pub entry_value : Entry → EntryValue
entry_value Skipped = skipped
entry_value Unknown = unknown
entry_value (Says i) = says (node_line_value i.value)

abbrev pub entry_values : List Entry → List EntryValue
entry_values = map entry_value

abbrev pub IsEntry : List ℕ → EntryValue → Type 0
IsEntry line skipped = IsSkipped line
IsEntry line unknown = ¬ (IsSkipped line) × ((i : NodeLineValue) → ¬ (IsNodeLine line i))
IsEntry line (says i) = ¬ (IsSkipped line) × IsNodeLine line i

-- the lines of a file without their ends
abbrev pub texts_of : List ℕ → List (List ℕ)
texts_of bytes = map without_terminator (lines_of bytes)

-- the entries of a file: each line is read as the entry at its place
abbrev pub AreEntries : List ℕ → List EntryValue → Type 0
AreEntries bytes es = AllZip IsEntry (texts_of bytes) es
