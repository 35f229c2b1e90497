-- The lines of a file that was written, each in its place.
use Rattle.std.proofs.Common.{List, [], ◌∷◌, ◌++◌, map}
use Rattle.std.specs.List.{Contains}
use Rattle.hm_tree.specs.Names.{Name}
use Rattle.hm_terms.specs.Lenses.{DefinitionValue}
use Rattle.hm_terms.specs.Programs.{ProgramValue}
use Rattle.hm_schema_lines.specs.NodeLines.{NodeLineValue, IsNodeLine}
use Rattle.hm_schema_lines.specs.Entries.{EntryValue, unknown, says}
use Rattle.hm_schema_writer.specs.Writing.{line_text}
use Rattle.hm_schema_writer.specs.WrittenNodes.{name_at, nodes_lines}
use Rattle.hm_focal.specs.OwnLines.{term, LensValue, OwnValue, nothing, header, format, lens, main, IsFormat, IsLensLine, IsMainLine}
use Rattle.hm_focal.specs.Lines.{AreLines}
use Rattle.hm_focal.proofs.Laws.{ordered_lines}
use Rattle.hm_focal_writer.specs.Writing.{header_text, format_text, definition_text, main_text, lens_lines}
use Rattle.hm_focal_writer.proofs.WrittenOwn.{header_reads}

-- what the line of a definition says
abbrev pub lens_line : List Name → Name × DefinitionValue → LensValue
lens_line names v = record {
  name = v.0;
  source = name_at names v.1.source;
  view = name_at names v.1.view;
  body = term v.1.body;
}

abbrev pub own_line : List Name → Name × DefinitionValue → OwnValue
own_line names v = lens (lens_line names v)

abbrev pub written_entries : ProgramValue → List EntryValue
written_entries p =
    unknown ∷ unknown ∷ (map says (nodes_lines p.options.type_names p.options.types) ++ (map (λ v. unknown) p.definitions ++ unknown ∷ []))

abbrev pub written_own : ProgramValue → List OwnValue
written_own p =
    header ∷ format p.format p.options.pairs ∷ (map (λ x. nothing) (nodes_lines p.options.type_names p.options.types)
    ++ (map (own_line p.options.type_names) p.definitions ++ main (term p.main) ∷ []))

-- each line is read as what it says
pub record AreReadable (p : ProgramValue) : Type 0 where
  pub format : IsFormat (format_text p.format p.options.pairs) p.format p.options.pairs
  pub nodes : (x : NodeLineValue) → Contains (nodes_lines p.options.type_names p.options.types) x → IsNodeLine (line_text x) x
  pub lenses : (v : Name × DefinitionValue) → Contains p.definitions v → IsLensLine (definition_text p.options.type_names v) (lens_line p.options.type_names v)
  pub main : IsMainLine (main_text p.main) (term p.main)

pub lines_read : (p : ProgramValue) → AreReadable p → AreLines (lens_lines p) (written_entries p) (written_own p)
lines_read p h =
    ordered_lines header_text (format_text p.format p.options.pairs) (main_text p.main) p.format p.options.pairs (term p.main) line_text
    (nodes_lines p.options.type_names p.options.types) (definition_text p.options.type_names) (lens_line p.options.type_names) p.definitions
    header_reads h.format h.nodes h.lenses h.main
