-- What the lines of a lens file's own are built into.
use Rattle.std.specs.Prelude.{◌≡◌, List, [], ◌++◌, IfSome, IsSome, map, count_by, filter_map, Option, Some, None, MatchOption}
use Rattle.std.specs.List.{AllZip, Contains, cons_option}
use Rattle.hm_schema.specs.Values.{pair_value}
use Rattle.hm_terms.specs.declared.term.Definition.{Definition}
use Rattle.hm_terms.specs.Programs.{lens_of, definition_value}
use Rattle.hm_schema_lines.specs.Entries.{EntryValue}
use Rattle.hm_schema_lines.specs.BadLines.{IsNode}
use Rattle.hm_focal.specs.declared.program.Parts.{Parts}
use Rattle.hm_focal.specs.OwnLines.{term, oversized, LensValue, OwnValue, nothing, header, format, lens, main, is_format, is_main, lens_in}
use Rattle.hm_focal.specs.LensFiles.{IsDefinitionOf}

abbrev pub IsBuiltDefinition : List EntryValue → LensValue → Option Definition → Type 0
IsBuiltDefinition es d None = d.body ≡ oversized
IsBuiltDefinition es d (Some v) = IsDefinitionOf es d (definition_value v)

-- the nodes that a line names are there
abbrev pub AreNamed : List EntryValue → OwnValue → Type 0
AreNamed es (lens d) = IsNode es d.source × IsNode es d.view
AreNamed es o = Unit {0}

-- what a line adds to the parts before it
abbrev pub IsTaken : List EntryValue → OwnValue → Parts → Parts → Type 0
IsTaken es nothing p q = p ≡ q
IsTaken es header p q = p ≡ q
IsTaken es (format w ps) p q = IfSome q.format (λ f. (f.word ≡ w) × (map pair_value f.pairs.items ≡ ps)) × IsSome q.format
    × (p.definitions ≡ q.definitions) × (p.main ≡ q.main)
IsTaken es (lens d) p q = (v : Option Definition) × IsBuiltDefinition es d v
    × (q.definitions.items ≡ p.definitions.items ++ cons_option v []) × (p.format ≡ q.format) × (p.main ≡ q.main)
IsTaken es (main (term l)) p q = IfSome q.main (λ t. lens_of t ≡ l) × IsSome q.main × (p.format ≡ q.format) × (p.definitions ≡ q.definitions)
IsTaken es (main oversized) p q = p ≡ q

-- the parts of a program, by some lines
pub record AreBuilt (es : List EntryValue) (os : List OwnValue) (p : Parts) : Type 0 where
  pub format : MatchOption p.format (count_by is_format os ≡ 0) (λ f. Contains os (format f.word (map pair_value f.pairs.items)))
  pub definitions : AllZip (IsDefinitionOf es) (filter_map lens_in os) (map definition_value p.definitions.items)
  pub main : MatchOption p.main (count_by is_main os ≡ 0) (λ t. Contains os (main (term (lens_of t))))
