-- How nodes are written: the line of each node and the lines inside it, one node behind another. The node `Empty` isn't written: it can't
-- be declared, and is there wherever it is named.
use Rattle.std.specs.Prelude.{◌≡◌, ◌≢◌, ℕ, suc, ◌<◌, ◌≤◌, ◌^◌, cond, All, List, [], ◌∷◌, ◌++◌, length, map, get_or, slice_get, flat_map, codes, Option, Some, None, IsUtf8}
use Rattle.std.specs.List.{Contains}
use Rattle.std.specs.Str.{bytes_eq}
use Rattle.hm_tree.specs.Names.{Name}
use Rattle.hm_tree.specs.Sets.{ascending}
use Rattle.hm_tree.specs.declared.class.Class.{Class}
use Rattle.hm_schema.specs.declared.node.NodeId.{NodeId}
use Rattle.hm_schema.specs.declared.node.Shape.{Shape}
use Rattle.hm_schema.specs.Values.{NodeValue}
use Rattle.hm_schema.specs.WellFormed.{IsWellFormedNode}
use Rattle.hm_schema_lines.specs.declared.token.Token.TheVariants.{Word}
use Rattle.hm_schema_lines.specs.Tokens.{IsToken}
use Rattle.hm_schema_lines.specs.NodeLines.{NodeLineValue, node, edge, other, shape}
use Rattle.hm_schema_lines.specs.Entries.{EntryValue, says}
use Rattle.hm_schema_lines.specs.Nodes.{empty_node}
use Rattle.hm_schema_writer.specs.Writing.{line_text, ended}

-- ---- the lines of a node

-- the name of a node, by the names of all nodes
abbrev pub name_at : List Name → NodeId → Name
name_at names id = get_or names id.place []

abbrev pub edge_line : List Name → Name × NodeId → NodeLineValue
edge_line names child = edge child.0 (name_at names child.1)

abbrev pub other_lines : List Name → Option (Class × NodeId) → List NodeLineValue
other_lines names None = []
other_lines names (Some o) = other o.0 (name_at names o.1) ∷ []

abbrev pub shape_line : Shape → NodeLineValue
shape_line s = shape (record {
  required = ascending s.required;
  optional = ascending s.optional;
  count = record { least = s.least; most = s.most };
})

-- the lines inside a node: its edges, the other names, its shapes
abbrev pub inner_lines : List Name → NodeValue → List NodeLineValue
inner_lines names n = map (edge_line names) n.children ++ (other_lines names n.other ++ map shape_line n.shapes)

abbrev pub node_lines : List Name → Name → NodeValue → List NodeLineValue
node_lines names w n = node w ∷ inner_lines names n

-- ---- the lines of all nodes

-- the names of nodes that are declared: those up to `Empty`
abbrev pub declared_names : List Name → List Name
declared_names [] = []
declared_names (w ∷ ws) = cond (bytes_eq w (codes "Empty")) [] (w ∷ declared_names ws)

-- the lines of nodes under their names, of which the first list has all
abbrev pub lines_under : List Name → List Name → List NodeValue → List NodeLineValue
lines_under names [] ns = []
lines_under names (w ∷ ws) [] = []
lines_under names (w ∷ ws) (n ∷ ns) = node_lines names w n ++ lines_under names ws ns

abbrev pub nodes_lines : List Name → List NodeValue → List NodeLineValue
nodes_lines names nodes = lines_under names (declared_names names) nodes

abbrev pub ended_text : NodeLineValue → List ℕ
ended_text x = ended (line_text x)

abbrev pub nodes_text : List Name → List NodeValue → List ℕ
nodes_text names nodes = flat_map ended_text (nodes_lines names nodes)

-- ---- which nodes can be written

pub record IsWritableShape (s : Shape) : Type 0 where
  pub least : s.least < 2 ^ 64
  pub most : (n : ℕ) → s.most ≡ Some n → n < 2 ^ 64

-- a node of so many
pub record IsWritableNode (count : ℕ) (n : NodeValue) : Type 0 where
  pub formed : IsWellFormedNode count n
  pub twins : n.twins ≡ []
  pub texts : All (λ (child : Name × NodeId). IsUtf8 child.0) n.children
  pub shapes : All IsWritableShape n.shapes
  pub few_shapes : length n.shapes ≤ 256

-- nodes with their names: `Empty` may be the last one
pub record IsWritable (names : List Name) (nodes : List NodeValue) : Type 0 where
  pub named : length names ≡ length nodes
  pub once : (i j : ℕ) (w : Name) → slice_get names i ≡ Some w → slice_get names j ≡ Some w → i ≡ j
  pub words : (i : ℕ) (w : Name) → slice_get names i ≡ Some w → IsToken (Word w)
  pub each : All (IsWritableNode (length nodes)) nodes
  pub few : (i : ℕ) (w : Name) → slice_get names i ≡ Some w → w ≢ codes "Empty" → i < 1000
  pub last : (i : ℕ) → slice_get names i ≡ Some (codes "Empty") → (suc i ≡ length names) × (slice_get nodes i ≡ Some empty_node)

-- ---- files in which nodes are written

abbrev pub SaysNothing : List EntryValue → Type 0
SaysNothing es = (x : NodeLineValue) → ¬ (Contains es (says x))

-- entries are those of the lines of nodes, with lines of no node before and behind them
pub record AreOfNodes (names : List Name) (nodes : List NodeValue) (es : List EntryValue) : Type 0 where
  pub front : List EntryValue
  pub back : List EntryValue
  pub is : es ≡ front ++ (map says (nodes_lines names nodes) ++ back)
  pub before : SaysNothing front
  pub behind : SaysNothing back
