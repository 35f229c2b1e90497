-- What the calls of a format answer, unless there was no memory.
use Rattle.std.specs.Prelude.{◌≡◌, ℕ, List, Option, Some, None, Result, Ok, Err, Vec}
use Rattle.std.specs.declared.alloc.Global.{Global}
use Rattle.hm_tree.specs.Names.{Name}
use Rattle.hm_tree.specs.Nodes.{Tree}
use Rattle.hm_schema.specs.Values.{SchemaValue}
use Rattle.hm_format.specs.declared.fault.FormatFault.{FormatFault}
use Rattle.hm_format.specs.declared.fault.FormatFault.TheVariants.{BadOption, NotUtf8, BadItem, NoKey, TooDeep, Outside, Memory}

-- the schema that is wanted, or the bad key
abbrev pub GivesSchema : Result SchemaValue Name → Result SchemaValue FormatFault → Type 0
GivesSchema wanted (Ok schema) = wanted ≡ Ok schema
GivesSchema wanted (Err (BadOption key)) = wanted ≡ Err key
GivesSchema wanted (Err Memory) = Unit {0}
GivesSchema wanted (Err (NotUtf8 at)) = ⊥
GivesSchema wanted (Err (BadItem number)) = ⊥
GivesSchema wanted (Err (NoKey number)) = ⊥
GivesSchema wanted (Err (TooDeep depth)) = ⊥
GivesSchema wanted (Err (Outside path)) = ⊥

-- what the bytes are read as
abbrev pub Reads : (Result Tree FormatFault → Type 0) → Result Tree FormatFault → Type 0
Reads reads (Ok tree) = reads (Ok tree)
Reads reads (Err (BadOption key)) = reads (Err (BadOption key))
Reads reads (Err (NotUtf8 at)) = reads (Err (NotUtf8 at))
Reads reads (Err (BadItem number)) = reads (Err (BadItem number))
Reads reads (Err (NoKey number)) = reads (Err (NoKey number))
Reads reads (Err (TooDeep depth)) = reads (Err (TooDeep depth))
Reads reads (Err (Outside path)) = reads (Err (Outside path))
Reads reads (Err Memory) = Unit {0}

-- what is written, or the depth that is over the limit
abbrev pub Writes : Option ℕ → (List ℕ → Type 0) → Result (Vec ℕ Global) FormatFault → Type 0
Writes over writes (Ok bytes) = (over ≡ None) × writes bytes.items
Writes over writes (Err (TooDeep depth)) = over ≡ Some depth
Writes over writes (Err Memory) = Unit {0}
Writes over writes (Err (BadOption key)) = ⊥
Writes over writes (Err (NotUtf8 at)) = ⊥
Writes over writes (Err (BadItem number)) = ⊥
Writes over writes (Err (NoKey number)) = ⊥
Writes over writes (Err (Outside path)) = ⊥
