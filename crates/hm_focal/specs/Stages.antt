-- Which lines may stand next in a lens file, as the reader keeps it.
use Rattle.std.specs.Prelude.{◌≡◌, ◌<◌, ◌≤◌, Bool, true, false, cond, List, count_by}
use Rattle.hm_schema_lines.specs.Entries.{EntryValue, skipped, unknown, says}
use Rattle.hm_schema_lines.specs.BadLines.{is_counted}
use Rattle.hm_focal.specs.declared.lines.Stage.{Stage}
use Rattle.hm_focal.specs.declared.lines.Stage.TheVariants.{Header, Format, Nodes, Lenses, End}
use Rattle.hm_focal.specs.OwnLines.{OwnValue, nothing, header, format, lens, main, is_main, ends_nodes}

-- what has stood before
abbrev pub IsStage : List EntryValue → List OwnValue → Stage → Type 0
IsStage es os Header = (count_by is_counted es ≡ 0) × (count_by ends_nodes os ≡ 0) × (count_by is_main os ≡ 0)
IsStage es os Format = (count_by is_counted es ≡ 1) × (count_by ends_nodes os ≡ 0) × (count_by is_main os ≡ 0)
IsStage es os Nodes = (2 ≤ count_by is_counted es) × (count_by ends_nodes os ≡ 0) × (count_by is_main os ≡ 0)
IsStage es os Lenses = (2 ≤ count_by is_counted es) × (0 < count_by ends_nodes os) × (count_by is_main os ≡ 0)
IsStage es os End = (2 ≤ count_by is_counted es) × (0 < count_by ends_nodes os) × (0 < count_by is_main os)

abbrev pub takes_nodes : Stage → Bool
takes_nodes Header = false
takes_nodes Format = false
takes_nodes Nodes = true
takes_nodes Lenses = false
takes_nodes End = false

abbrev pub takes_lenses : Stage → Bool
takes_lenses Header = false
takes_lenses Format = false
takes_lenses Nodes = true
takes_lenses Lenses = true
takes_lenses End = false

abbrev pub takes_header : Stage → Bool
takes_header Header = true
takes_header s = false

abbrev pub takes_format : Stage → Bool
takes_format Format = true
takes_format s = false

abbrev pub takes_own : Stage → OwnValue → Bool
takes_own s nothing = true
takes_own s header = takes_header s
takes_own s (format w ps) = takes_format s
takes_own s (lens d) = takes_lenses s
takes_own s (main b) = takes_lenses s

-- a line in its place, or else unknown, or nothing
abbrev pub placed_entry : Stage → EntryValue → EntryValue
placed_entry s skipped = skipped
placed_entry s unknown = unknown
placed_entry s (says x) = cond (takes_nodes s) (says x) unknown

abbrev pub placed_own : Stage → OwnValue → OwnValue
placed_own s o = cond (takes_own s o) o nothing

-- behind a line
abbrev pub behind_own : Stage → OwnValue → Stage
behind_own s nothing = s
behind_own s header = s
behind_own s (format w ps) = s
behind_own s (lens d) = Lenses
behind_own s (main b) = End

abbrev pub next_stage : Stage → Bool → OwnValue → Stage
next_stage Header counted o = cond counted Format Header
next_stage Format counted o = cond counted Nodes Format
next_stage Nodes counted o = behind_own Nodes o
next_stage Lenses counted o = behind_own Lenses o
next_stage End counted o = End
