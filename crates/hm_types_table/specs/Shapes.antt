-- What is told of the names of a shape.
use Rattle.std.specs.Prelude.{◌≡◌, Bool, IsTrue}
use Rattle.std.specs.FinSet.{contains}
use Rattle.hm_tree.specs.Names.{Name}
use Rattle.hm_schema.specs.declared.node.Shape.{Shape}
use Rattle.hm_schema.specs.Values.{Names}
use Rattle.hm_schema.specs.Tidied.{has_name}

-- each name of a shape is in a set, or none is
abbrev pub HasAll : Names → Bool → Shape → Type 0
HasAll names inside a = (k : Name) → IsTrue (has_name a k) → contains names k ≡ inside
