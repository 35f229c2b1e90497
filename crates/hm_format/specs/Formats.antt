-- What formats mean, and the laws that they meet (TOPLAS 2007, section 3: PutGet and GetPut).
use Rattle.std.specs.Prelude.{◌≡◌, ℕ, nat_lt, cond, List, Option, Some, None, Result, Ok, Err}
use Rattle.hm_existence.specs.Existence.{IsThere}
use Rattle.hm_tree.specs.Names.{Name}
use Rattle.hm_tree.specs.Nodes.{Tree, depth}
use Rattle.hm_schema.specs.Values.{SchemaValue, OptionsValue}
use Rattle.hm_schema.specs.Membership.{HasNoTwins, IsMemberTree}
use Rattle.hm_format.specs.declared.fault.FormatFault.{FormatFault}
use Rattle.hm_format.specs.declared.fault.FormatFault.TheVariants.{BadOption, NotUtf8, BadItem, NoKey, TooDeep, Outside, Memory}
use Rattle.hm_format.specs.Options.{AreSound}

-- a tree of a depth above 1,000 isn't written, and no bytes are read as one
abbrev pub deepest : ℕ
deepest = 1000

abbrev pub depth_over : Tree → Option ℕ
depth_over t = cond (nat_lt deepest (depth t)) (Some (depth t)) None

pub record FormatMeaning : Type 1 where
  pub tag : ℕ
  -- the schema of options, or the first key that is bad
  pub schema_of : OptionsValue → Result SchemaValue Name
  -- what bytes are read as, under options: a tree, or why there is none
  pub reads : OptionsValue → List ℕ → Result Tree FormatFault → Type 0
  -- the depth of a tree, where it is over the limit
  pub over : Tree → Option ℕ
  -- what is written of a tree, behind the bytes from before
  pub writes : OptionsValue → Tree → List ℕ → List ℕ → Type 0
  -- from the one bytes to the others all stays that the trees don't show
  pub keeps : OptionsValue → List ℕ → List ℕ → Type 0

-- options are those of a format, and this is their schema
abbrev pub HasSchema : FormatMeaning → OptionsValue → SchemaValue → Type 0
HasSchema m o s = m.schema_of o ≡ Ok s

-- sound options that are those of a format
pub record MayRead (m : FormatMeaning) (o : OptionsValue) : Type 0 where
  pub sound : AreSound o
  pub schema : SchemaValue
  pub has : HasSchema m o schema

-- the tree is a member of their schema, and the bytes from before are read
pub record MayWrite (m : FormatMeaning) (o : OptionsValue) (t : Tree) (before : List ℕ) : Type 0 where
  pub options : MayRead m o
  pub member : IsMemberTree options.schema t
  pub old : Tree
  pub read : m.reads o before (Ok old)

-- why bytes aren't read: want of memory is nothing of them, and neither are options
abbrev pub IsReadFault : FormatFault → Type 0
IsReadFault (BadOption key) = ⊥
IsReadFault (NotUtf8 at) = Unit {0}
IsReadFault (BadItem number) = Unit {0}
IsReadFault (NoKey number) = Unit {0}
IsReadFault (TooDeep depth) = Unit {0}
IsReadFault (Outside path) = Unit {0}
IsReadFault Memory = ⊥

pub record IsLawful (m : FormatMeaning) : Type 0 where
  -- bytes are read as one tree, or refused for one fault
  pub read_once : (o : OptionsValue) (bytes : List ℕ) (r s : Result Tree FormatFault) → m.reads o bytes r → m.reads o bytes s → r ≡ s
  pub read_faults : (o : OptionsValue) (bytes : List ℕ) (f : FormatFault) → m.reads o bytes (Err f) → IsReadFault f
  -- whatever the bytes are, they are read or refused, where the options are the format's
  pub some_read : (o : OptionsValue) (s : SchemaValue) (bytes : List ℕ) → AreSound o → HasSchema m o s → IsThere (m.reads o bytes)
  -- schemas have no twins
  pub no_twins : (o : OptionsValue) (s : SchemaValue) → AreSound o → HasSchema m o s → HasNoTwins s
  -- what is read is a member of the schema, within the limit of depth
  pub members : (o : OptionsValue) (s : SchemaValue) (bytes : List ℕ) (t : Tree) → AreSound o → HasSchema m o s → m.reads o bytes (Ok t) → IsMemberTree s t
  pub within : (o : OptionsValue) (s : SchemaValue) (bytes : List ℕ) (t : Tree) → HasSchema m o s → m.reads o bytes (Ok t) → m.over t ≡ None
  -- of a tree one text is written at the most
  pub writes_once : (o : OptionsValue) (t : Tree) (before one other : List ℕ) → m.writes o t before one → m.writes o t before other → one ≡ other
  -- and there is one, of each member of the schema within the limit, where the bytes from before are read
  pub some_written : (o : OptionsValue) (s : SchemaValue) (before : List ℕ) (old t : Tree) → AreSound o → HasSchema m o s → m.reads o before (Ok old)
      → IsMemberTree s t → m.over t ≡ None → IsThere (m.writes o t before)
  -- what is written is read as the tree
  pub put_get : (o : OptionsValue) (s : SchemaValue) (before after : List ℕ) (old t : Tree) → AreSound o → HasSchema m o s → m.reads o before (Ok old)
      → IsMemberTree s t → m.over t ≡ None → m.writes o t before after → m.reads o after (Ok t)
  -- and the bytes stay where they are read as the tree
  pub get_put : (o : OptionsValue) (before : List ℕ) (t : Tree) → AreSound o → m.reads o before (Ok t) → m.writes o t before before
  -- what the trees don't show stays
  pub kept : (o : OptionsValue) (s : SchemaValue) (before after : List ℕ) (old t : Tree) → AreSound o → HasSchema m o s → m.reads o before (Ok old)
      → IsMemberTree s t → m.over t ≡ None → m.writes o t before after → m.keeps o before after
