-- What the two roots of a file are read as.
use Rattle.std.specs.Prelude.{◌≡◌, ◌+◌, ℕ, List, Some, Result, Ok, Err, length}
use Rattle.serde_json.specs.Data.{Data}
use Rattle.hm_tree.specs.Nodes.{Tree}
use Rattle.hm_marks_trees.specs.Nodes.{Plain, contents, seen}
use Rattle.hm_marks_trees.specs.Trees.{AreShallow, AreOver}
use Rattle.hm_format.specs.declared.fault.FormatFault.{FormatFault}
use Rattle.hm_format.specs.declared.fault.FormatFault.TheVariants.{BadOption, NotUtf8, BadItem, NoKey, TooDeep, Outside, Memory}
use Rattle.hm_marks_trees.specs.declared.node.Node.{Node}
use Rattle.hm_json_nodes.specs.Nodes.{json}
use Rattle.hm_json_nodes.specs.Numbers.{IsFirstBad}
use Rattle.hm_json_marks.specs.Roots.{Place, bar_key, other_key, root_at, from_root, fits}
use Rattle.hm_json_marks.specs.Files.{IsRoot}

-- a file hasn't both roots
abbrev pub HasNoRoots : Data → Type 0
HasNoRoots file = (bar other : Data) → root_at bar_key file ≡ Some bar → root_at other_key file ≡ Some other → ⊥

-- a root is a folder, and nodes show what stands in it
pub record IsRootRead (d : Data) (nodes : List Node) : Type 0 where
  pub root : IsRoot d
  pub show : contents nodes ≡ seen json root.contents

-- they were counted, from so many before to so many
pub record IsRootCounted (d : Data) (from to : ℕ) (nodes : List Node) : Type 0 where
  pub read : IsRootRead d nodes
  pub count : to ≡ from + length (from_root d)

-- the number of the first of these that doesn't fit, behind so many
pub record IsMisfitIn (places : List Place) (from number : ℕ) : Type 0 where
  pub place : ℕ
  pub first : IsFirstBad fits places place
  pub is : number ≡ from + place

-- the tree of what stands in two folders, or how much it is over the limits
abbrev pub GivesTree : Plain → Plain → Result Tree FormatFault → Type 0
GivesTree bar other (Ok tree) = AreShallow bar other tree
GivesTree bar other (Err (TooDeep depth)) = AreOver bar other (Some depth)
GivesTree bar other (Err Memory) = Unit {0}
GivesTree bar other (Err (BadOption name)) = ⊥
GivesTree bar other (Err (NotUtf8 at)) = ⊥
GivesTree bar other (Err (BadItem number)) = ⊥
GivesTree bar other (Err (NoKey number)) = ⊥
GivesTree bar other (Err (Outside path)) = ⊥
