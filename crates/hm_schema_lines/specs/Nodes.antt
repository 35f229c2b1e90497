-- The nodes that the lines of a file describe.
use Rattle.std.specs.Prelude.{◌≡◌, ◌⊎◌, ◌↔◌, ℕ, ◌+◌, T, List, [], ◌∷◌, ◌++◌, length, map, slice_get, codes, count_by, filter_map, Option, Some, None}
use Rattle.std.specs.List.{Contains}
use Rattle.std.specs.FinMap.{is_sorted, find}
use Rattle.std.specs.FinSet.{from_list}
use Rattle.hm_tree.specs.Names.{Name, name_cmp}
use Rattle.hm_tree.specs.declared.class.Class.{Class}
use Rattle.hm_schema.specs.declared.node.NodeId.{NodeId}
use Rattle.hm_schema.specs.declared.node.Shape.{Shape}
use Rattle.hm_schema.specs.Values.{NodeValue}
use Rattle.hm_schema_lines.specs.NodeLines.{ShapeValue, node, edge, other, shape}
use Rattle.hm_schema_lines.specs.Entries.{EntryValue, says}
use Rattle.hm_schema_lines.specs.Firsts.{node_names}
use Rattle.hm_schema_lines.specs.BadLines.{Says, named, begins_node, nodes_before, behind}

-- the place of a node: that of its line among the node lines, and for `Empty` the one behind them
pub data IsPlaceOf (es : List EntryValue) : Name → ℕ → Type 0 where
  declared : {w : Name} (i : ℕ) → Says es i (node w) → IsPlaceOf es w (nodes_before es i)
  empty : IsPlaceOf es (codes "Empty") (count_by begins_node es)

abbrev pub shapes_in : List EntryValue → List ShapeValue
shapes_in [] = []
shapes_in (says (shape s) ∷ es) = s ∷ shapes_in es
shapes_in (e ∷ es) = shapes_in es

abbrev pub as_shape : ShapeValue → Shape
as_shape s = record { required = from_list s.required; optional = from_list s.optional; least = s.count.least; most = s.count.most }

-- the node that some lines describe
pub record IsNodeOf (es lines : List EntryValue) (n : NodeValue) : Type 0 where
  pub shapes : n.shapes ≡ map as_shape (shapes_in lines)
  pub ascending : T (is_sorted name_cmp n.children)
  pub children : (k : Name) (id : NodeId) → (find name_cmp k n.children ≡ Some id)
      ↔ ((w : Name) × Contains lines (says (edge k w)) × IsPlaceOf es w id.place)
  pub other : (c : Class) (id : NodeId) → (n.other ≡ Some (c, id)) ↔ ((w : Name) × Contains lines (says (other c w)) × IsPlaceOf es w id.place)
  pub twins : n.twins ≡ []

-- the node whose one shape is empty
abbrev pub empty_node : NodeValue
empty_node = record {
  shapes = record { required = from_list []; optional = from_list []; least = 0; most = Some 0 } ∷ [];
  children = [];
  other = None;
  twins = [];
}

-- the names of nodes that lines have
abbrev pub named_by : EntryValue → Option Name
named_by (says x) = named x
named_by e = None

-- a line of a node names `Empty`, or it is among the names that the file's other lines have
abbrev pub NamesEmpty : List EntryValue → List Name → Type 0
NamesEmpty es own = Contains (filter_map named_by es) (codes "Empty") ⊎ Contains own (codes "Empty")

-- a node for each node line, in their order, and behind them `Empty` where it is named
pub record AreNodesOf (es : List EntryValue) (own : List Name) (nodes : List NodeValue) : Type 0 where
  pub lines : (i : ℕ) (w : Name) → Says es i (node w) → (n : NodeValue) × (slice_get nodes (nodes_before es i) ≡ Some n) × IsNodeOf es (behind es i) n
  pub empty : NamesEmpty es own → slice_get nodes (count_by begins_node es) ≡ Some empty_node
  pub long : NamesEmpty es own → length nodes ≡ count_by begins_node es + 1
  pub short : ¬ (NamesEmpty es own) → length nodes ≡ count_by begins_node es

-- the names of the declared nodes in their order, and behind them `Empty` where it is named
pub record AreTypeNames (es : List EntryValue) (own names : List Name) : Type 0 where
  pub long : NamesEmpty es own → names ≡ node_names es ++ codes "Empty" ∷ []
  pub short : ¬ (NamesEmpty es own) → names ≡ node_names es
