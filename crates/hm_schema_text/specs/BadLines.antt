-- Which lines of a schema file are bad, and which is told.
use Rattle.std.specs.Prelude.{◌≡◌, ℕ, ◌<◌, ◌≤◌, List, length, slice_get, count_by, Some}
use Rattle.hm_tree.specs.Names.{Name}
use Rattle.hm_schema_lines.specs.Entries.{EntryValue, unknown, AreEntries}
use Rattle.hm_schema_lines.specs.BadLines.{is_counted, lines_before, IsNode, IsBadNodeLine}
use Rattle.hm_schema_lines.specs.FirstBad.{IsTold}
use Rattle.hm_schema_text.specs.Head.{IsHeaderAt, IsRootAt, IsNth}

pub data IsBadLine (bytes : List ℕ) (es : List EntryValue) (i : ℕ) : Type 0 where
  -- the first line that isn't skipped is the header, and the second names the node of the root
  no_header : IsNth es 0 i → ¬ (IsHeaderAt bytes i) → IsBadLine bytes es i
  no_root : IsNth es 1 i → ((w : Name) → ¬ (IsRootAt bytes i w)) → IsBadLine bytes es i
  names_no_node : {w : Name} → IsNth es 1 i → IsRootAt bytes i w → ¬ (IsNode es w) → IsBadLine bytes es i
  -- all others are of nodes
  unreadable : slice_get es i ≡ Some unknown → 2 ≤ lines_before es i → IsBadLine bytes es i
  of_node : IsBadNodeLine es i → IsBadLine bytes es i

-- the first bad line of a file, counted from 1; where there is none but the header or the root is missing, one more than there are lines
pub record IsFirstBadLine (bytes : List ℕ) (line : ℕ) : Type 0 where
  pub entries : List EntryValue
  pub read : AreEntries bytes entries
  pub told : IsTold (IsBadLine bytes entries) (count_by is_counted entries < 2) (length entries) line
