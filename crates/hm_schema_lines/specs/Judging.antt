-- What is known of a line when it is judged.
use Rattle.std.specs.Prelude.{◌≡◌, ◌⊎◌, ℕ, suc, ◌<◌, List, Some}
use Rattle.std.specs.List.{Contains}
use Rattle.hm_tree.specs.Names.{Name}
use Rattle.hm_schema_lines.specs.declared.count.Count.{Count}
use Rattle.hm_schema_lines.specs.declared.judge.Line.{Line}
use Rattle.hm_schema_lines.specs.Entries.{EntryValue, entry_values}
use Rattle.hm_schema_lines.specs.BadLines.{around, Lists, SpeaksOfOthers, IsNoneCounted}
use Rattle.hm_schema_lines.specs.Firsts.{node_names, AreFirsts}
use Rattle.hm_schema_lines.specs.Sections.{IsSection}
use Rattle.hm_schema_lines.specs.Counting.{IsBefore}

abbrev pub lines_of : Line → List EntryValue
lines_of l = entry_values l.entries.now

pub record IsKnown (l : Line) : Type 0 where
  pub before : IsBefore (lines_of l) l.place l.before
  pub declared : AreFirsts l.declared.now (node_names (lines_of l))
  pub section : IsSection (around (lines_of l) (suc l.place)) l.section.now

abbrev pub IsTurned : Count → Type 0
IsTurned c = (most : ℕ) × (c.most ≡ Some most) × (most < c.least)

-- a name isn't listed in the node of a line
abbrev pub HasUnlisted : List EntryValue → ℕ → List Name → Type 0
HasUnlisted es i ks = (k : Name) × Contains ks k × ¬ (Lists (around es (suc i)) k)

-- no unlisted name is counted, or the node of a line speaks of them
abbrev pub MayCount : List EntryValue → ℕ → Count → Type 0
MayCount es i c = IsNoneCounted c ⊎ SpeaksOfOthers (around es (suc i))
