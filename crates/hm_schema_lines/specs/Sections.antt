-- What the lines of a node hold.
use Rattle.std.specs.Prelude.{◌≡◌, Bool, true, false, List, count_by}
use Rattle.hm_schema_lines.specs.declared.section.Section.{Section}
use Rattle.hm_schema_lines.specs.NodeLines.{other}
use Rattle.hm_schema_lines.specs.Entries.{EntryValue, says}
use Rattle.hm_schema_lines.specs.Firsts.{edge_names, AreFirsts}
use Rattle.hm_schema_lines.specs.BadLines.{is_shape}

abbrev pub speaks_of_others : EntryValue → Bool
speaks_of_others (says (other c w)) = true
speaks_of_others e = false

pub record IsSection (lines : List EntryValue) (s : Section) : Type 0 where
  pub listed : AreFirsts s.listed (edge_names lines)
  pub others : s.others ≡ count_by speaks_of_others lines
  pub shapes : s.shapes ≡ count_by is_shape lines
