-- The program of a lens file, and what reading one comes to.
use Rattle.std.specs.Prelude.{◌≡◌, ℕ, List, filter_map, Result, Ok, Err}
use Rattle.std.specs.List.{AllZip, Contains}
use Rattle.hm_tree.specs.Names.{Name}
use Rattle.hm_terms.specs.Lenses.{DefinitionValue}
use Rattle.hm_terms.specs.Programs.{ProgramValue}
use Rattle.hm_schema_lines.specs.Entries.{EntryValue, texts_of}
use Rattle.hm_schema_lines.specs.FirstBad.{HasNoBad}
use Rattle.hm_schema_lines.specs.Nodes.{IsPlaceOf, AreTypeNames, AreNodesOf}
use Rattle.hm_focal.specs.declared.fault.LensFault.{LensFault}
use Rattle.hm_focal.specs.declared.fault.LensFault.TheVariants.{BadLens, Memory}
use Rattle.hm_focal.specs.OwnLines.{term, LensValue, OwnValue, format, main, lens_in, named_nodes}
use Rattle.hm_focal.specs.Lines.{AreLines}
use Rattle.hm_focal.specs.BadLines.{IsBadLine, IsFirstBadLine}

-- the definition of a lens line
pub record IsDefinitionOf (es : List EntryValue) (d : LensValue) (v : Name × DefinitionValue) : Type 0 where
  pub name : v.0 ≡ d.name
  pub source : IsPlaceOf es d.source v.1.source.place
  pub view : IsPlaceOf es d.view v.1.view.place
  pub body : d.body ≡ term v.1.body

-- a file is of a program: none of its lines is bad, and they name its format, describe its nodes and its lenses, and one is its main line
pub record IsLensFile (bytes : List ℕ) (p : ProgramValue) : Type 0 where
  pub entries : List EntryValue
  pub own : List OwnValue
  pub read : AreLines (texts_of bytes) entries own
  pub sound : HasNoBad (IsBadLine entries own)
  pub format : Contains own (format p.format p.options.pairs)
  pub type_names : AreTypeNames entries (named_nodes own) p.options.type_names
  pub types : AreNodesOf entries (named_nodes own) p.options.types
  pub definitions : AllZip (IsDefinitionOf entries) (filter_map lens_in own) p.definitions
  pub main : Contains own (main (term p.main))

-- what reading a file comes to: its program or its first bad line, but no want of memory
abbrev pub ReadsLens : List ℕ → Result ProgramValue LensFault → Type 0
ReadsLens bytes (Ok p) = IsLensFile bytes p
ReadsLens bytes (Err (BadLens line)) = IsFirstBadLine bytes line
ReadsLens bytes (Err Memory) = ⊥
