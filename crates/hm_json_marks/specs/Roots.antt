-- The two folders at the root of a bookmark file of JSON, and the numbers of the nodes in it.
use Rattle.std.specs.Prelude.{◌≡◌, ℕ, zero, suc, Bool, true, false, cond, List, ◌∷◌, ◌++◌, map, Option, Some, option_and_then, codes}
use Rattle.serde_json.specs.Data.{Data}
use Rattle.serde_json.specs.Find.{get}
use Rattle.hm_json_documents.specs.Documents.{IsDocument}
use Rattle.hm_json_nodes.specs.Nodes.{is_folder}
use Rattle.hm_json_nodes.specs.Numbers.{below, is_node, IsFirstBad}

abbrev pub roots_key : List ℕ
roots_key = codes "roots"

abbrev pub bar_key : List ℕ
bar_key = codes "bookmark_bar"

abbrev pub other_key : List ℕ
other_key = codes "other"

-- a member of the member `roots`
abbrev pub root_at : List ℕ → Data → Option Data
root_at k file = option_and_then (get k) (get roots_key file)

-- bytes are a document with the two
pub record HasRoots (bytes : List ℕ) (bar other : Data) : Type 0 where
  pub file : Data
  pub document : IsDocument bytes file
  pub bar_is : root_at bar_key file ≡ Some bar
  pub other_is : root_at other_key file ≡ Some other

-- ---- numbers

-- a node, and whether it stands at a root
abbrev pub Place : Type 0
Place = Bool × Data

abbrev pub inner : Data → Place
inner d = (false, d)

-- a root and the nodes below it
abbrev pub from_root : Data → List Place
from_root d = (true, d) ∷ map inner (below d)

-- they are numbered over the bar, and then over the others
abbrev pub numbered : Data → Data → List Place
numbered bar other = from_root bar ++ from_root other

-- a root has to be a folder, and the others links or folders
abbrev pub fits : Place → Bool
fits p = cond p.0 (is_folder p.1) (is_node p.1)

-- the number of the first node that doesn't fit; 0 where there are no such roots
abbrev pub IsBadItem : List ℕ → ℕ → Type 0
IsBadItem bytes zero = (bar other : Data) → ¬ (HasRoots bytes bar other)
IsBadItem bytes (suc n) = (bar : Data) × (other : Data) × HasRoots bytes bar other × IsFirstBad fits (numbered bar other) (suc n)
