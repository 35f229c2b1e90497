-- The nodes of values: a value is one name, to an empty tree.
use Rattle.std.specs.Prelude.{◌≡◌, [], Some, All}
use Rattle.std.specs.Option.{option_map}
use Rattle.hm_tree.specs.declared.class.Class.{Class}
use Rattle.hm_schema.specs.declared.node.Shape.{Shape}
use Rattle.hm_schema.specs.Values.{NodeOver}
use Rattle.hm_schema_lists.specs.ListNodes.{no_names, empty_shape}

-- one name that isn't listed, and no others
abbrev pub value_shape : Shape
value_shape = record { required = no_names; optional = no_names; least = 1; most = Some 1 }

-- a node has the shape of values and lists nothing; its other names are of a class, and lead to i
pub record IsValueNode {I : Type 0} (c : Class) (i : I) (n : NodeOver I) : Type 0 where
  pub shapes : All (λ a. a ≡ value_shape) n.shapes
  pub unlisted : n.children ≡ []
  pub other : n.other ≡ Some (c, i)

-- a node permits the empty set of names alone
abbrev pub IsEmptyNode : {I : Type 0} → NodeOver I → Type 0
IsEmptyNode n = All (λ a. a ≡ empty_shape) n.shapes

-- a node with another class of other names
abbrev pub with_class : {I : Type 0} → Class → NodeOver I → NodeOver I
with_class c n = record { shapes = n.shapes; children = n.children; other = option_map (λ o. (c, o.1)) n.other; twins = n.twins }
