-- What is said of the shapes of a node.
use Rattle.std.specs.Prelude.{◌≡◌, Bool, IsTrue, Some, All, List}
use Rattle.std.specs.FinSet.{contains}
use Rattle.hm_tree.specs.Names.{Name}
use Rattle.hm_schema.specs.declared.node.Shape.{Shape}
use Rattle.hm_schema.specs.Values.{NodeOver}
use Rattle.hm_schema.specs.Tidied.{has_name}

-- a shape lets no unlisted name in
abbrev pub IsShut : Shape → Type 0
IsShut a = a.most ≡ Some 0

-- it has only names that pass a test
abbrev pub HasOnly : (Name → Bool) → Shape → Type 0
HasOnly p a = (k : Name) → IsTrue (has_name a k) → IsTrue (p k)

abbrev pub Requires : Name → Shape → Type 0
Requires k a = IsTrue (contains a.required k)

pub record RequiresTwin (a : Shape) (twin : Name × Name) : Type 0 where
  pub one : Requires twin.0 a
  pub two : Requires twin.1 a

-- each shape of a node requires both names of each of its twins
abbrev pub RequiresTwins : {I : Type 0} → NodeOver I → Type 0
RequiresTwins n = All (λ a. All (RequiresTwin a) n.twins) n.shapes

-- a node with other shapes and other twins, and with what it lists
abbrev pub shaped : {I : Type 0} → NodeOver I → List Shape → List (Name × Name) → NodeOver I
shaped n shapes twins = record { shapes = shapes; children = n.children; other = n.other; twins = twins }
