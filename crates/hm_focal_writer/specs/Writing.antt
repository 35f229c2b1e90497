-- How a lens file is written: one space between two tokens, names of edges between quotes, and a line feed behind each line.
use Rattle.std.specs.Prelude.{ℕ, List, [], ◌∷◌, ◌++◌, map, flat_map, codes}
use Rattle.hm_tree.specs.Names.{Name}
use Rattle.hm_tree_spelling.specs.Spelling.{spelled}
use Rattle.hm_terms.specs.Lenses.{Lens, DefinitionValue}
use Rattle.hm_terms.specs.Programs.{ProgramValue}
use Rattle.hm_terms.specs.WellFormedPrograms.{IsLensOf}
use Rattle.hm_focal_terms.specs.Limits.{IsOversized}
use Rattle.hm_focal_terms.specs.Written.{term_text}
use Rattle.hm_schema_writer.specs.Writing.{line_text, ended}
use Rattle.hm_schema_writer.specs.WrittenNodes.{name_at, nodes_lines}

-- ---- lines

abbrev pub header_text : List ℕ
header_text = codes "harmony lens 1"

-- names of edges with commas between
abbrev pub edges_text : List Name → List ℕ
edges_text [] = []
edges_text (k ∷ ks) = spelled k ++ flat_map (λ (n : Name). 44 ∷ spelled n) ks

-- an option, and the space in front of it
abbrev pub option_text : Name × List Name → List ℕ
option_text p = 32 ∷ (p.0 ++ (61 ∷ edges_text p.1))

abbrev pub format_text : Name → List (Name × List Name) → List ℕ
format_text w ps = codes "format " ++ (w ++ flat_map option_text ps)

-- a definition, by the names of the nodes
abbrev pub definition_text : List Name → Name × DefinitionValue → List ℕ
definition_text names v =
    codes "lens " ++ (v.0 ++ (32 ∷ (name_at names v.1.source ++ (32 ∷ (name_at names v.1.view ++ (codes " = " ++ term_text v.1.body))))))

abbrev pub main_text : Lens → List ℕ
main_text l = codes "main = " ++ term_text l

-- ---- files

abbrev pub lens_lines : ProgramValue → List (List ℕ)
lens_lines p =
    header_text
    ∷ format_text p.format p.options.pairs
    ∷ (map line_text (nodes_lines p.options.type_names p.options.types)
    ++ (map (definition_text p.options.type_names) p.definitions ++ main_text p.main ∷ []))

abbrev pub lens_text : ProgramValue → List ℕ
lens_text p = flat_map ended (lens_lines p)

-- no text of a lens of a program is oversized
abbrev pub HasSmallTexts : ProgramValue → Type 0
HasSmallTexts p = (l : Lens) → IsLensOf p l → ¬ (IsOversized (term_text l))
