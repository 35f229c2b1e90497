-- What contracts see of a schema, and the node of each path.
use Rattle.std.specs.Prelude.{Bool, List, [], ◌∷◌, map, Option, Some, Vec, is_some, slice_get, option_and_then}
use Rattle.std.specs.declared.alloc.Global.{Global}
use Rattle.std.specs.Option.{option_or, option_map}
use Rattle.std.specs.FinMap.{find}
use Rattle.std.specs.FinSet.{FinSet}
use Rattle.hm_tree.specs.declared.class.Class.{Class}
use Rattle.hm_tree.specs.Names.{Name, name_cmp}
use Rattle.hm_tree.specs.States.{Path}
use Rattle.hm_schema.specs.declared.node.NodeId.{NodeId}
use Rattle.hm_schema.specs.declared.node.Shape.{Shape}
use Rattle.hm_schema.specs.declared.node.Node.{Node}
use Rattle.hm_schema.specs.declared.options.Options.{Options}

abbrev pub Names : Type 0
Names = FinSet name_cmp

-- a node, over what its edges lead to: its shapes, its listed names with what each leads to, the class of all other names
-- with what these lead to, its twins
pub record NodeOver (I : Type 0) : Type 0 where
  pub shapes : List Shape
  pub children : List (Name × I)
  pub other : Option (Class × I)
  pub twins : List (Name × Name)

-- in a schema edges lead to places among its nodes
abbrev pub NodeValue : Type 0
NodeValue = NodeOver NodeId

pub record SchemaValue : Type 0 where
  pub nodes : List NodeValue
  pub root : NodeId

abbrev pub node_value : Node → NodeValue
node_value n = record { shapes = n.shapes.items; children = n.children.items; other = n.other; twins = n.twins.items }

abbrev pub schema_value : List Node → NodeId → SchemaValue
schema_value nodes root = record { nodes = map node_value nodes; root = root }

abbrev pub is_listed : {I : Type 0} → NodeOver I → Name → Bool
is_listed n k = is_some (find name_cmp k n.children)

-- the node of a name right below a node: that of the name where it is listed, else that of all other names
abbrev pub child_of : {I : Type 0} → NodeOver I → Name → Option I
child_of n k = option_or (find name_cmp k n.children) (option_map (λ o. o.1) n.other)

abbrev pub node_at : SchemaValue → NodeId → Option NodeValue
node_at s i = slice_get s.nodes i.place

abbrev pub child_at : SchemaValue → NodeId → Name → Option NodeId
child_at s i k = option_and_then (λ n. child_of n k) (node_at s i)

-- where a path leads from a node
abbrev pub reached : SchemaValue → NodeId → Path → Option NodeId
reached s i [] = Some i
reached s i (k ∷ p) = option_and_then (λ j. reached s j p) (child_at s i k)

-- the node of a path, from a node on
abbrev pub node_of : SchemaValue → NodeId → Path → Option NodeValue
node_of s i p = option_and_then (node_at s) (reached s i p)

-- ---- the options of a format

abbrev pub pair_value : Name × Vec Name Global → Name × List Name
pair_value p = (p.0, p.1.items)

-- each key with its values, and the nodes that are declared, with their names
pub record OptionsValue : Type 0 where
  pub pairs : List (Name × List Name)
  pub type_names : List Name
  pub types : List NodeValue

abbrev pub options_value : Options → OptionsValue
options_value o = record { pairs = map pair_value o.pairs.items; type_names = o.type_names.items; types = map node_value o.types.items }
