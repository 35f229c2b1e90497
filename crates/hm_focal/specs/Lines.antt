-- The lines of a lens file, each in its place: the header, the format line, lines of nodes, lens lines, the main line.
use Rattle.std.specs.Prelude.{◌≡◌, ℕ, ◌≤◌, List, length, take, slice_get, count_by, Some}
use Rattle.hm_schema_lines.specs.NodeLines.{NodeLineValue, IsNodeLine}
use Rattle.hm_schema_lines.specs.Entries.{EntryValue, skipped, unknown, says, IsSkipped}
use Rattle.hm_schema_lines.specs.BadLines.{is_counted}
use Rattle.hm_focal.specs.OwnLines.{OwnValue, nothing, header, format, lens, main, is_main, ends_nodes, IsOwn}

-- which lines may stand behind others: the header behind none but skipped ones, the format line behind one, lines of nodes behind two
-- and before the lens lines and the main line, these before the main line
abbrev pub MayStand : List EntryValue → List OwnValue → OwnValue → Type 0
MayStand es os nothing = Unit {0}
MayStand es os header = count_by is_counted es ≡ 0
MayStand es os (format w ps) = count_by is_counted es ≡ 1
MayStand es os (lens d) = (2 ≤ count_by is_counted es) × (count_by is_main os ≡ 0)
MayStand es os (main b) = (2 ≤ count_by is_counted es) × (count_by is_main os ≡ 0)

abbrev pub NodesMayStand : List EntryValue → List OwnValue → Type 0
NodesMayStand es os = (2 ≤ count_by is_counted es) × (count_by ends_nodes os ≡ 0)

-- a line behind others as a line of a node: one that is out of its place is unknown, as it declares nothing
abbrev pub IsEntryBehind : List EntryValue → List OwnValue → List ℕ → EntryValue → Type 0
IsEntryBehind es os line skipped = IsSkipped line
IsEntryBehind es os line (says x) = ¬ (IsSkipped line) × IsNodeLine line x × NodesMayStand es os
IsEntryBehind es os line unknown = ¬ (IsSkipped line) × ((x : NodeLineValue) → IsNodeLine line x → ¬ (NodesMayStand es os))

-- and as a line of the file's own: nothing where it is none of these, or out of its place
abbrev pub IsOwnBehind : List EntryValue → List OwnValue → List ℕ → OwnValue → Type 0
IsOwnBehind es os line nothing = (o : OwnValue) → IsOwn line o → ¬ (MayStand es os o)
IsOwnBehind es os line header = IsOwn line header × MayStand es os header
IsOwnBehind es os line (format w ps) = IsOwn line (format w ps) × MayStand es os (format w ps)
IsOwnBehind es os line (lens d) = IsOwn line (lens d) × MayStand es os (lens d)
IsOwnBehind es os line (main b) = IsOwn line (main b) × MayStand es os (main b)

-- each line as both, by those before it
pub record AreLines (texts : List (List ℕ)) (es : List EntryValue) (os : List OwnValue) : Type 0 where
  pub entries : length es ≡ length texts
  pub own : length os ≡ length texts
  pub entry_at : (i : ℕ) (line : List ℕ) (e : EntryValue) → slice_get texts i ≡ Some line → slice_get es i ≡ Some e
      → IsEntryBehind (take i es) (take i os) line e
  pub own_at : (i : ℕ) (line : List ℕ) (o : OwnValue) → slice_get texts i ≡ Some line → slice_get os i ≡ Some o
      → IsOwnBehind (take i es) (take i os) line o
