-- The nodes that are built from the lines of a file.
use Rattle.std.specs.Prelude.{◌≡◌, ℕ, ◌<◌, List, [], length, slice_get, filter_map, IsPermutation, IsSortedByKey, Option, Some, None, unwrap_or}
use Rattle.std.specs.List.{Contains}
use Rattle.indexmap.specs.IndexMap.{get_by_text}
use Rattle.hm_schema_lines.specs.Firsts.{FirstPlaces}
use Rattle.hm_tree.specs.Names.{Name, name_cmp}
use Rattle.hm_tree.specs.declared.class.Class.{Class}
use Rattle.hm_schema.specs.declared.node.NodeId.{NodeId}
use Rattle.hm_schema.specs.declared.node.Shape.{Shape}
use Rattle.hm_schema.specs.Values.{NodeValue}
use Rattle.hm_schema_lines.specs.NodeLines.{node, edge, other, shape}
use Rattle.hm_schema_lines.specs.Entries.{EntryValue, says}
use Rattle.hm_schema_lines.specs.BadLines.{Says, SpeaksOfOthers, nodes_before, behind}
use Rattle.hm_schema_lines.specs.Nodes.{as_shape}

-- the node of a name: at its place in a table, else behind all of them
abbrev pub id_in : FirstPlaces → ℕ → Name → NodeId
id_in table count w = record { place = unwrap_or (get_by_text table w) count }

-- ---- what a line adds to a node, where each name has its node

abbrev pub shape_of : EntryValue → Option Shape
shape_of (says (shape s)) = Some (as_shape s)
shape_of e = None

abbrev pub child_of : (Name → NodeId) → EntryValue → Option (Name × NodeId)
child_of id (says (edge k w)) = Some (k, id w)
child_of id e = None

-- what lines say of unlisted names, if they do
abbrev pub IsOtherOf : (Name → NodeId) → List EntryValue → Option (Class × NodeId) → Type 0
IsOtherOf id lines None = ¬ (SpeaksOfOthers lines)
IsOtherOf id lines (Some o) = (w : Name) × Contains lines (says (other o.0 w)) × (o.1 ≡ id w)

-- ---- nodes

-- a node of some lines
pub record IsBuilt (id : Name → NodeId) (lines : List EntryValue) (n : NodeValue) : Type 0 where
  pub shapes : n.shapes ≡ filter_map shape_of lines
  pub children : IsPermutation (filter_map (child_of id) lines) n.children
  pub ascending : IsSortedByKey (λ (e : Name × NodeId). e.0) name_cmp n.children
  pub other : IsOtherOf id lines n.other
  pub twins : n.twins ≡ []

-- a node for each node line before a place, in their order
pub record AreBuilt (id : Name → NodeId) (es : List EntryValue) (place : ℕ) (nodes : List NodeValue) : Type 0 where
  pub lines : (i : ℕ) (w : Name) → i < place → Says es i (node w)
      → (n : NodeValue) × (slice_get nodes (nodes_before es i) ≡ Some n) × IsBuilt id (behind es i) n
  pub long : length nodes ≡ nodes_before es place
