-- What an index of the shapes of a node says: each listed name has a bit for each shape that has the name, and each shape
-- has a key, a name that it requires, or is among those without one.
use Rattle.std.specs.Prelude.{◌≡◌, ◌⊎◌, ℕ, ◌+◌, ◌*◌, ◌<◌, ◌≤◌, IsTrue, List, Option, Some, length, get_or, slice_get}
use Rattle.std.specs.Int.{bit_at}
use Rattle.std.specs.FinSet.{contains}
use Rattle.hm_tree.specs.Names.{Name}
use Rattle.hm_tree.specs.Edges.{IsPlaceOf}
use Rattle.hm_schema.specs.declared.node.Node.{Node}
use Rattle.hm_schema.specs.declared.node.NodeId.{NodeId}
use Rattle.hm_schema.specs.declared.node.Shape.{Shape}
use Rattle.hm_schema.specs.declared.index.Block.{Block}
use Rattle.hm_schema.specs.declared.index.ShapeIndex.{ShapeIndex}
use Rattle.hm_schema.specs.Values.{Names, NodeValue, node_value, schema_value}
use Rattle.hm_schema.specs.Permitted.{Fits}
use Rattle.hm_schema.specs.Tidied.{has_name}
use Rattle.hm_schema.specs.WellFormed.{IsWellFormed}

-- a bit of the word at a place
abbrev pub bit_of : List ℕ → ℕ → ℕ → ℕ
bit_of words p b = bit_at (get_or words p 0) b

-- where a shape has a listed name, the word of the name has the bit of the shape: of so many shapes from a place on
abbrev pub AreMarked : NodeValue → ℕ → ℕ → List ℕ → Type 0
AreMarked n first count words = (b : ℕ) (s : Shape) (k : Name) (p : ℕ) → b < count → slice_get n.shapes (first + b) ≡ Some s → IsTrue (has_name s k)
    → IsPlaceOf k n.children p → bit_of words p b ≡ 1

-- one of some names has the bit of a shape whose key it is
pub record IsKey (children : List (Name × NodeId)) (keys : List ℕ) (b : ℕ) (names : Names) : Type 0 where
  pub name : Name
  pub among : IsTrue (contains names name)
  pub place : ℕ
  pub there : IsPlaceOf name children place
  pub marked : bit_of keys place b ≡ 1

-- a shape has no key, or its key is one of some names
abbrev pub IsKeyAmong : List (Name × NodeId) → Block → ℕ → Names → Type 0
IsKeyAmong children block b names = (bit_at block.free b ≡ 1) ⊎ IsKey children block.keys.items b names

-- of so many shapes from a place on each has no key, or requires it
abbrev pub AreKeyed : NodeValue → ℕ → ℕ → Block → Type 0
AreKeyed n first count block = (b : ℕ) (s : Shape) → b < count → slice_get n.shapes (first + b) ≡ Some s → IsKeyAmong n.children block b s.required

-- each listed name has its two words
pub record HasWords (block : Block) (children : List (Name × NodeId)) : Type 0 where
  pub words : length block.words.items ≡ length children
  pub keys : length block.keys.items ≡ length children

-- each listed name has its words, with the bits of 64 shapes from a place on
pub record IsBlockOf (block : Block) (first : ℕ) (n : NodeValue) : Type 0 where
  pub one_each : HasWords block n.children
  pub marked : AreMarked n first 64 block.words.items
  pub keyed : AreKeyed n first 64 block

-- there is a block for each 64 shapes
pub record IsIndexOf (x : ShapeIndex) (n : NodeValue) : Type 0 where
  pub all : length n.shapes ≤ length x.blocks.items * 64
  pub each : (w : ℕ) (block : Block) → slice_get x.blocks.items w ≡ Some block → IsBlockOf block (w * 64) n

-- each node whose index is there has the right one
abbrev pub AreIndexes : List Node → List (Option ShapeIndex) → Type 0
AreIndexes nodes indexes = (i : ℕ) (n : Node) (x : ShapeIndex) → slice_get nodes i ≡ Some n → slice_get indexes i ≡ Some (Some x)
    → IsIndexOf x (node_value n)

-- what a schema keeps: well formed nodes, and indexes of some of them
pub record IsKept (nodes : List Node) (root : NodeId) (indexes : List (Option ShapeIndex)) : Type 0 where
  pub formed : IsWellFormed (schema_value nodes root)
  pub indexed : AreIndexes nodes indexes

-- of so many shapes from a place on names fit none
abbrev pub NoneFits : NodeValue → ℕ → ℕ → Names → Type 0
NoneFits n first count names = (b : ℕ) (s : Shape) → b < count → slice_get n.shapes (first + b) ≡ Some s → ¬ (Fits n s names)

-- ---- marks

-- a name has a bit, wherever it is listed
abbrev pub HasMark : List (Name × NodeId) → List ℕ → ℕ → Name → Type 0
HasMark children words b k = (p : ℕ) → IsPlaceOf k children p → bit_of words p b ≡ 1

-- all names of a set have a bit, wherever they are listed
abbrev pub HaveMarks : List (Name × NodeId) → List ℕ → ℕ → Names → Type 0
HaveMarks children words b names = (k : Name) → IsTrue (contains names k) → HasMark children words b k

-- a shape may fit names: all that are listed have its bit, and its key is among them
pub record IsLeft (children : List (Name × NodeId)) (block : Block) (b : ℕ) (names : Names) : Type 0 where
  pub marks : HaveMarks children block.words.items b names
  pub key : IsKeyAmong children block b names

-- there are as many words, and no bit is lost
pub record IsKeeping (old new : List ℕ) : Type 0 where
  pub same : length old ≡ length new
  pub kept : (p b : ℕ) → bit_of old p b ≡ 1 → bit_of new p b ≡ 1
