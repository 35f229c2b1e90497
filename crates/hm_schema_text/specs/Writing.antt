-- How a schema is written: its head, and the lines of its nodes, which are called N0, N1 and so on, in their order.
use Rattle.std.specs.Prelude.{ℕ, ◌≤◌, All, List, IsUtf8, ◌∷◌, ◌++◌, length, map, flat_map, codes, decimal}
use Rattle.std.specs.List.{range_with_len}
use Rattle.hm_tree.specs.Names.{Name}
use Rattle.hm_schema.specs.declared.node.NodeId.{NodeId}
use Rattle.hm_schema.specs.Values.{NodeValue, SchemaValue}
use Rattle.hm_schema.specs.Membership.{HasNoTwins}
use Rattle.hm_schema_writer.specs.Writing.{line_text, ended}
use Rattle.hm_schema_writer.specs.WrittenNodes.{nodes_lines, IsWritableShape}

-- ---- names

-- the name of a node, by its number
abbrev pub number_name : ℕ → Name
number_name n = codes "N" ++ decimal n

-- those of so many nodes
abbrev pub number_names : ℕ → List Name
number_names n = map number_name (range_with_len 0 n)

-- ---- files

abbrev pub header_text : List ℕ
header_text = codes "harmony schema 1"

abbrev pub root_text : NodeId → List ℕ
root_text root = codes "root " ++ number_name root.place

abbrev pub schema_lines : SchemaValue → List (List ℕ)
schema_lines s = header_text ∷ root_text s.root ∷ map line_text (nodes_lines (number_names (length s.nodes)) s.nodes)

unfoldable pub schema_text : SchemaValue → List ℕ
schema_text s = flat_map ended (schema_lines s)

-- ---- which schemas are read again

-- what each node in memory is: the names that it lists are texts, and the counts of its shapes fit
pub record IsHeld (n : NodeValue) : Type 0 where
  pub texts : All (λ (child : Name × NodeId). IsUtf8 child.0) n.children
  pub counts : All IsWritableShape n.shapes

-- a file can say all of a schema: it has no twins, and no more nodes and shapes than the lines of a file may declare
pub record IsWithinLimits (s : SchemaValue) : Type 0 where
  pub plain : HasNoTwins s
  pub nodes : length s.nodes ≤ 1000
  pub shapes : All (λ (n : NodeValue). length n.shapes ≤ 256) s.nodes
