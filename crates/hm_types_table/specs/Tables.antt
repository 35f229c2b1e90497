-- What contracts see of a table: its nodes. Nodes of one kind share its shapes, names and twins.
use Rattle.std.specs.Prelude.{◌≡◌, ℕ, ◌+◌, ◌<◌, List, [], ◌++◌, length, map, Option, Some, None, slice_get, All, IfSome}
use Rattle.std.specs.List.{zip}
use Rattle.hm_tree.specs.declared.class.Class.{Class}
use Rattle.hm_tree.specs.Names.{Name}
use Rattle.hm_schema.specs.declared.node.NodeId.{NodeId}
use Rattle.hm_schema.specs.Values.{NodeOver, NodeValue}
use Rattle.hm_schema.specs.WellFormed.{IsWellFormedNode}
use Rattle.hm_types_forms.specs.Forms.{Form, over, form}
use Rattle.hm_types_table.specs.declared.kind.NodeKind.{NodeKind}
use Rattle.hm_types_table.specs.declared.vertex.Vertex.{Vertex}

abbrev pub Nodes : Type 0
Nodes = List NodeValue

-- references are in range, and so on
abbrev pub AreFormed : Nodes → Type 0
AreFormed nodes = All (IsWellFormedNode (length nodes)) nodes

-- a table only grows
pub record Extends (old new : Nodes) : Type 0 where
  pub more : Nodes
  pub is : new ≡ old ++ more

-- a node over the forms that its edges lead to
abbrev pub opened : Nodes → NodeValue → NodeOver Form
opened nodes n = over (λ s j. form nodes j) n

-- ---- how a table keeps its nodes

-- a node of a kind: each name leads to the node beside it
abbrev pub seated : NodeKind → List NodeId → Option (Class × NodeId) → NodeValue
seated k next other = record { shapes = k.shapes.items; children = zip k.names.items next; other = other; twins = k.twins.items }

abbrev pub seat : NodeKind → Vertex → NodeValue
seat k v = seated k v.next.items v.other

abbrev pub seat_if : Option NodeKind → Vertex → NodeValue
seat_if None v = record { shapes = []; children = []; other = None; twins = [] }
seat_if (Some k) v = seat k v

abbrev pub row : List NodeKind → Vertex → NodeValue
row kinds v = seat_if (slice_get kinds v.kind) v

abbrev pub rows : List NodeKind → List Vertex → Nodes
rows kinds vs = map (row kinds) vs

-- a vertex has a kind, and as many edges as this has names
pub record IsSeated (kinds : List NodeKind) (v : Vertex) : Type 0 where
  pub kind : v.kind < length kinds
  pub count : IfSome (slice_get kinds v.kind) (λ k. length v.next.items ≡ length k.names.items)

pub record IsTable (kinds : List NodeKind) (vs : List Vertex) : Type 0 where
  pub formed : AreFormed (rows kinds vs)
  pub seated : All (IsSeated kinds) vs

-- ---- the nodes of a schema behind others

abbrev pub shift : ℕ → NodeId → NodeId
shift by i = record { place = by + i.place }

-- its edges lead to nodes so many places further
abbrev pub shifted : ℕ → NodeValue → NodeValue
shifted by n = over (λ s j. shift by j) n

-- kinds and vertices of the nodes of a schema, to stand behind so many kinds and so many nodes
pub record AreShifted (first by : ℕ) (kinds : List NodeKind) (vs : List Vertex) (nodes : Nodes) : Type 0 where
  pub count : length kinds ≡ length nodes
  pub rows : (before : List NodeKind) → length before ≡ first → rows (before ++ kinds) vs ≡ map (shifted by) nodes
  pub seated : (before : List NodeKind) → length before ≡ first → All (IsSeated (before ++ kinds)) vs

-- ---- a node of the kind of another one

abbrev pub keys : {X : Type 0} → List (Name × X) → List Name
keys es = map (λ e. e.0) es

-- the same names lead to other nodes
abbrev pub replaced : NodeValue → List NodeId → Option (Class × NodeId) → NodeValue
replaced n next other = record { shapes = n.shapes; children = zip (keys n.children) next; other = other; twins = n.twins }

-- both are missing, or both are there, have one class, and the second is in range
abbrev pub Replaces : Nodes → Option (Class × NodeId) → Option (Class × NodeId) → Type 0
Replaces nodes None None = Unit {0}
Replaces nodes (Some o) (Some p) = (p.0 ≡ o.0) × (p.1.place < length nodes)
Replaces nodes None (Some p) = ⊥
Replaces nodes (Some o) None = ⊥

-- nodes to which the edges of a node of the same kind may lead
pub record CanReplace (nodes : Nodes) (id : NodeId) (js : List NodeId) (o : Option (Class × NodeId)) : Type 0 where
  pub node : NodeValue
  pub is : slice_get nodes id.place ≡ Some node
  pub count : length js ≡ length node.children
  pub next : All (λ j. j.place < length nodes) js
  pub other : Replaces nodes node.other o
