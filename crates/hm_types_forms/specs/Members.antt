-- Which trees are members of a form.
use Rattle.std.specs.Prelude.{◌≡◌, IsSome, Some, All}
use Rattle.hm_tree.specs.Names.{Name}
use Rattle.hm_tree.specs.Nodes.{Tree, below}
use Rattle.hm_schema.specs.Values.{NodeOver, child_of}
use Rattle.hm_schema.specs.Permitted.{Permits, names_of}
use Rattle.hm_schema.specs.Standing.{HasTwin}
use Rattle.hm_types_forms.specs.Forms.{Form, node_of}

-- the names of a tree are permitted at the node of a form, its twins are alike, and each child is a member below its name
pub data Member : Form → Tree → Type 0 where
  member : {u : Form} {n : NodeOver Form} {t : Tree} → node_of u ≡ Some n → Permits n (names_of t) → All (HasTwin t) n.twins
      → ((k : Name) (x : Tree) → below k t ≡ Some x → IsSome (child_of n k))
      → ((k : Name) (x : Tree) (v : Form) → below k t ≡ Some x → child_of n k ≡ Some v → Member v x) → Member u t
