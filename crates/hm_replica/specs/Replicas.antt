-- A file that is read through a format and a program of lenses, and what is written back of it (TOPLAS 2007, section 3, of
-- a format and a lens together).
use Rattle.std.specs.Prelude.{◌≡◌, ℕ, List, Option, Some, None, Result, Ok, Err, Vec, cond}
use Rattle.std.specs.declared.alloc.Global.{Global}
use Rattle.hm_tree.specs.Nodes.{Tree}
use Rattle.hm_schema.specs.Values.{OptionsValue, SchemaValue}
use Rattle.hm_text_lens.specs.Meanings.{TextMeaning}
use Rattle.hm_terms.specs.Lenses.{Lens, Setting}
use Rattle.hm_terms.specs.Programs.{ProgramValue, program_value, setting_of}
use Rattle.hm_terms.specs.Shown.{Shows}
use Rattle.hm_terms.specs.Put.{Puts}
use Rattle.hm_terms.specs.Kept.{Keeps}
use Rattle.hm_terms.specs.Fitting.{Fits}
use Rattle.hm_eval.specs.Oblivious.{oblivious}
use Rattle.hm_terms.specs.declared.typed.Typed.{Typed}
use Rattle.hm_schema.specs.Membership.{IsMemberTree}
use Rattle.hm_format.specs.declared.fault.FormatFault.{FormatFault}
use Rattle.hm_format.specs.declared.fault.FormatFault.TheVariants.{BadOption, NotUtf8, BadItem, NoKey, TooDeep, Outside, Memory}
use Rattle.hm_format.specs.Options.{AreSound}
use Rattle.hm_format.specs.Formats.{FormatMeaning, HasSchema}
use Rattle.hm_replica.specs.declared.replica.Replica.{Replica}

-- the bytes, the tree that they are read as if it is kept, and what is shown of it
pub record ReplicaValue : Type 0 where
  pub bytes : List ℕ
  pub concrete : Option Tree
  pub view : Tree

abbrev pub replica_value : Replica → ReplicaValue
replica_value r = record { bytes = r.bytes.items; concrete = r.concrete; view = r.view }

-- a program, the schema of the trees that it shows, and that of their views
pub record TypedValue : Type 0 where
  pub program : ProgramValue
  pub source : SchemaValue
  pub view : SchemaValue

abbrev pub typed_value : Typed → TypedValue
typed_value t = record { program = program_value t.program; source = t.source; view = t.view }

-- the options of a program, its main lens, and what its lenses are read in
abbrev pub options_in : TypedValue → OptionsValue
options_in t = t.program.options

abbrev pub main_in : TypedValue → Lens
main_in t = t.program.main

abbrev pub setting_in : List TextMeaning → TypedValue → Setting
setting_in texts t = setting_of texts t.program

-- the source of a program is the format's schema of its options, and its main lens fits the source and the view
pub record IsFitting (m : FormatMeaning) (texts : List TextMeaning) (t : TypedValue) : Type 0 where
  pub sound : AreSound (options_in t)
  pub schema : HasSchema m (options_in t) t.source
  pub fits : Fits (setting_in texts t) (main_in t) (IsMemberTree t.source) (IsMemberTree t.view)

-- the tree that is kept of a replica: an oblivious lens puts without it
abbrev pub kept_by : Lens → Tree → Option Tree
kept_by l tree = cond (oblivious l) None (Some tree)

-- the bytes are read as a tree, of which the program shows the view
pub record IsReplica (m : FormatMeaning) (texts : List TextMeaning) (t : TypedValue) (r : ReplicaValue) : Type 0 where
  pub tree : Tree
  pub read : m.reads (options_in t) r.bytes (Ok tree)
  pub shown : Shows (setting_in texts t) (main_in t) tree r.view
  pub kept : r.concrete ≡ kept_by (main_in t) tree

-- the replica of these bytes, a member of the view's schema, or why they aren't read
abbrev pub Opens : FormatMeaning → List TextMeaning → TypedValue → List ℕ → Result Replica FormatFault → Type 0
Opens m texts t bytes (Ok r) = (r.bytes.items ≡ bytes) × IsReplica m texts t (replica_value r) × IsMemberTree t.view r.view
Opens m texts t bytes (Err (BadOption key)) = m.reads (options_in t) bytes (Err (BadOption key))
Opens m texts t bytes (Err (NotUtf8 at)) = m.reads (options_in t) bytes (Err (NotUtf8 at))
Opens m texts t bytes (Err (BadItem number)) = m.reads (options_in t) bytes (Err (BadItem number))
Opens m texts t bytes (Err (NoKey number)) = m.reads (options_in t) bytes (Err (NoKey number))
Opens m texts t bytes (Err (TooDeep depth)) = m.reads (options_in t) bytes (Err (TooDeep depth))
Opens m texts t bytes (Err (Outside path)) = m.reads (options_in t) bytes (Err (Outside path))
Opens m texts t bytes (Err Memory) = Unit {0}

-- the tree that is put of a view over the one that a file is read as
pub record IsPut (m : FormatMeaning) (texts : List TextMeaning) (t : TypedValue) (bytes : List ℕ) (shown tree : Tree) : Type 0 where
  pub before : Tree
  pub read : m.reads (options_in t) bytes (Ok before)
  pub puts : Puts (setting_in texts t) (main_in t) shown (Some before) tree

-- bytes that are written of a view: those of the tree that is put, which is within the limit; they are read as that
-- tree, and are a replica of the view; what the lens and what the format don't show is kept; and where the view is that
-- of the replica, so are the bytes
pub record IsClosed (m : FormatMeaning) (texts : List TextMeaning) (t : TypedValue) (r : ReplicaValue) (shown : Tree) (bytes : List ℕ) : Type 0 where
  pub tree : Tree
  pub put : IsPut m texts t r.bytes shown tree
  pub within : m.over tree ≡ None
  pub written : m.writes (options_in t) tree r.bytes bytes
  pub reads : m.reads (options_in t) bytes (Ok tree)
  pub replica : IsReplica m texts t (record { bytes = bytes; concrete = kept_by (main_in t) tree; view = shown })
  pub lens_keeps : Keeps (setting_in texts t) (main_in t) put.before tree
  pub format_keeps : m.keeps (options_in t) r.bytes bytes
  pub unchanged : shown ≡ r.view → bytes ≡ r.bytes

-- the tree that is put is over the limit
pub record IsTooDeep (m : FormatMeaning) (texts : List TextMeaning) (t : TypedValue) (r : ReplicaValue) (shown : Tree) (depth : ℕ) : Type 0 where
  pub tree : Tree
  pub put : IsPut m texts t r.bytes shown tree
  pub over : m.over tree ≡ Some depth

abbrev pub Closes : FormatMeaning → List TextMeaning → TypedValue → ReplicaValue → Tree → Result (Vec ℕ Global) FormatFault → Type 0
Closes m texts t r shown (Ok bytes) = IsClosed m texts t r shown bytes.items
Closes m texts t r shown (Err (TooDeep depth)) = IsTooDeep m texts t r shown depth
Closes m texts t r shown (Err Memory) = Unit {0}
Closes m texts t r shown (Err (BadOption key)) = ⊥
Closes m texts t r shown (Err (NotUtf8 at)) = ⊥
Closes m texts t r shown (Err (BadItem number)) = ⊥
Closes m texts t r shown (Err (NoKey number)) = ⊥
Closes m texts t r shown (Err (Outside path)) = ⊥
