-- What a reader of a part of the text says.
use Rattle.std.specs.Prelude.{◌≡◌, ℕ, ◌+◌, ◌<◌, ◌≤◌, Bool, true, ◌&&◌, T, List, [], ◌∷◌, ◌++◌, length, take, drop, Option, Some, None, IsUtf8}
use Rattle.std.specs.Ordering.{is_lt}
use Rattle.std.specs.declared.cmp.Ordering.TheVariants.{Less}
use Rattle.hm_tree_spelling.specs.Spelling.{spelled}
use Rattle.hm_tree.specs.Names.{Name, name_cmp}
use Rattle.hm_tree.specs.Nodes.{bare, Node, edges, depth}
use Rattle.hm_tree.specs.Archives.{Archive}
use Rattle.hm_tree_text.specs.Text.{whole, below, text, line_feed, HasAllowedMarks, edge_text, separator, inside}
use Rattle.hm_tree_text.specs.Begun.{IsBegun}

-- whether a name is greater than all names of edges
abbrev pub is_behind : {X : Type 0} → Name → List (Name × X) → Bool
is_behind name [] = true
is_behind name (e ∷ es) = is_lt (name_cmp e.0 name) && is_behind name es

-- the same for the last of these names, if there is one
abbrev pub IsAfter : Option Name → Name → Type 0
IsAfter None name = Unit {0}
IsAfter (Some last) name = name_cmp last name ≡ Less

-- this text stands in the bytes from one place to another
pub record StandsAt (bytes : List ℕ) (start : ℕ) (part : List ℕ) (end : ℕ) : Type 0 where
  pub spelled : drop start bytes ≡ part ++ drop end bytes
  pub within : end ≤ length bytes

-- ---- the forms of the grammar: the texts of each

-- a name that comes behind the last one
pub record IsName (last : Option Name) (bytes : List ℕ) : Type 0 where
  pub name : Name
  pub is_text : IsUtf8 name
  pub after : IsAfter last name
  pub is : bytes ≡ spelled name

-- what stands behind an edge
pub record IsSeparator (bytes : List ℕ) : Type 0 where
  pub more : Bool
  pub is : bytes ≡ separator more ∷ []

-- an edge behind others, with what stands behind it
pub record IsEdge (m : Bool) (es : List (Name × Node true)) (bytes : List ℕ) : Type 0 where
  pub name : Name
  pub child : Node true
  pub more : Bool
  pub is_text : IsUtf8 name
  pub after : T (is_behind name es)
  pub marks : HasAllowedMarks m child.shape
  pub is : bytes ≡ edge_text name child.shape ++ separator more ∷ []

-- what stands behind a name and behind the edge
pub record IsBelow (m : Bool) (bytes : List ℕ) : Type 0 where
  pub child : Node true
  pub more : Bool
  pub marks : HasAllowedMarks m child.shape
  pub is : bytes ≡ text below child.shape ++ separator more ∷ []

-- what stands behind a colon
pub record IsFull (m : Bool) (bytes : List ℕ) : Type 0 where
  pub node : Node true
  pub marks : HasAllowedMarks m node.shape
  pub some : node.shape ≡ bare → ⊥
  pub is : bytes ≡ text whole node.shape

-- what stands behind the brace of a node with edges
pub record IsInside (m : Bool) (bytes : List ℕ) : Type 0 where
  pub node : Node true
  pub marks : HasAllowedMarks m node.shape
  pub some : 0 < length (edges node)
  pub is : bytes ≡ inside (edges node)

pub record IsWhole (m : Bool) (bytes : List ℕ) : Type 0 where
  pub node : Node true
  pub marks : HasAllowedMarks m node.shape
  pub is : bytes ≡ text whole node.shape

-- a file that isn't empty
pub record IsFile (m : Bool) (bytes : List ℕ) : Type 0 where
  pub node : Node true
  pub marks : HasAllowedMarks m node.shape
  pub is : bytes ≡ text whole node.shape ++ line_feed

-- ---- where a form isn't there

-- one of its texts stands at the front
pub record BeginsWith (Form : List ℕ → Type 0) (bytes : List ℕ) : Type 0 where
  pub part : List ℕ
  pub rest : List ℕ
  pub is_form : Form part
  pub is : bytes ≡ part ++ rest

-- none does, and a part of this length is the longest with which one goes on
pub record IsLongestPart (Form : List ℕ → Type 0) (bytes : List ℕ) (n : ℕ) : Type 0 where
  pub within : n ≤ length bytes
  pub begun : IsBegun Form (take n bytes)
  pub none : ¬ (BeginsWith Form bytes)
  pub longest : (m : ℕ) (rest : List ℕ) → m ≤ length bytes → BeginsWith Form (take m bytes ++ rest) → m ≤ n

-- the same from a place in the bytes on
pub record IsFaultAt (Form : List ℕ → Type 0) (bytes : List ℕ) (start at : ℕ) : Type 0 where
  pub passed : ℕ
  pub place : at ≡ start + passed
  pub longest : IsLongestPart Form (drop start bytes) passed

-- ---- what is read of a form: the node, in which marks stand only where m allows them, and its depth

pub record IsRead (m : Bool) (room : ℕ) (value : Archive) (node : Node true) : Type 0 where
  pub is : value ≡ Some node
  pub marks : HasAllowedMarks m node.shape
  pub shallow : depth node ≤ room

-- behind a brace
pub record IsInsideRead (m : Bool) (room : ℕ) (bytes : List ℕ) (start : ℕ) (value : Archive) (end : ℕ) : Type 0 where
  pub node : Node true
  pub read : IsRead m room value node
  pub some : 0 < length (edges node)
  pub stands : StandsAt bytes start (inside (edges node)) end

-- behind a name
pub record IsBelowRead (m : Bool) (room : ℕ) (bytes : List ℕ) (start : ℕ) (value : Archive) (end : ℕ) : Type 0 where
  pub node : Node true
  pub read : IsRead m room value node
  pub stands : StandsAt bytes start (text below node.shape) end
  pub alone : node.shape ≡ bare → (rest : List ℕ) → ¬ (drop start bytes ≡ 58 ∷ rest)

pub record IsWholeRead (m : Bool) (room : ℕ) (bytes : List ℕ) (value : Archive) (end : ℕ) : Type 0 where
  pub node : Node true
  pub read : IsRead m room value node
  pub stands : StandsAt bytes 0 (text whole node.shape) end

-- an edge behind others
pub record IsEdgeRead (m : Bool) (room : ℕ) (es : List (Name × Node true)) (bytes : List ℕ) (start : ℕ) (name : Name) (value : Archive)
    (more : Bool) (end : ℕ) : Type 0 where
  pub child : Node true
  pub is_text : IsUtf8 name
  pub after : T (is_behind name es)
  pub read : IsRead m room value child
  pub stands : StandsAt bytes start (edge_text name child.shape ++ separator more ∷ []) end

-- all bytes
pub record IsFileRead (m : Bool) (value : Archive) (bytes : List ℕ) : Type 0 where
  pub node : Node true
  pub read : IsRead m 1000 value node
  pub is : bytes ≡ text whole node.shape ++ line_feed
