-- The schema of a file, and what reading it comes to.
use Rattle.std.specs.Prelude.{ℕ, List, [], ◌∷◌, Result, Ok, Err}
use Rattle.hm_tree.specs.Names.{Name}
use Rattle.hm_schema.specs.Values.{SchemaValue}
use Rattle.hm_schema_lines.specs.Entries.{EntryValue, AreEntries}
use Rattle.hm_schema_lines.specs.FirstBad.{HasNoBad}
use Rattle.hm_schema_lines.specs.Nodes.{IsPlaceOf, AreNodesOf}
use Rattle.hm_schema_text.specs.Head.{NamesRoot}
use Rattle.hm_schema_text.specs.BadLines.{IsBadLine, IsFirstBadLine}
use Rattle.hm_schema_text.specs.declared.fault.SchemaFault.{SchemaFault}
use Rattle.hm_schema_text.specs.declared.fault.SchemaFault.TheVariants.{BadSchema, Memory}

-- a file is of a schema: none of its lines is bad, and they describe its nodes and name its root
pub record IsSchemaFile (bytes : List ℕ) (s : SchemaValue) : Type 0 where
  pub entries : List EntryValue
  pub read : AreEntries bytes entries
  pub sound : HasNoBad (IsBadLine bytes entries)
  pub name : Name
  pub named : NamesRoot bytes entries name
  pub nodes : AreNodesOf entries (name ∷ []) s.nodes
  pub root : IsPlaceOf entries name s.root.place

-- what reading a file comes to: its schema or its first bad line, but no want of memory
abbrev pub ReadsSchema : List ℕ → Result SchemaValue SchemaFault → Type 0
ReadsSchema bytes (Ok s) = IsSchemaFile bytes s
ReadsSchema bytes (Err (BadSchema line)) = IsFirstBadLine bytes line
ReadsSchema bytes (Err Memory) = ⊥
