-- How many lines of each kind stand before a line.
use Rattle.std.specs.Prelude.{◌≡◌, ℕ, List, length, count_by}
use Rattle.hm_schema_lines.specs.declared.before.Before.{Before}
use Rattle.hm_schema_lines.specs.Entries.{EntryValue}
use Rattle.hm_schema_lines.specs.BadLines.{is_shape, earlier, lines_before, nodes_before}
use Rattle.hm_schema_lines.specs.Firsts.{edge_names}
use Rattle.hm_schema_lines.specs.Sections.{speaks_of_others}

-- before a line of a file
pub record IsBefore (es : List EntryValue) (i : ℕ) (b : Before) : Type 0 where
  pub lines : b.lines ≡ lines_before es i
  pub nodes : b.nodes ≡ nodes_before es i
  pub edges : b.edges ≡ length (edge_names (earlier es i))
  pub others : b.others ≡ count_by speaks_of_others (earlier es i)
  pub shapes : b.shapes ≡ count_by is_shape (earlier es i)
