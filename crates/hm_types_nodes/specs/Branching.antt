-- The two nodes that the lenses of a conditional are checked at: a node with a name, and without it.
use Rattle.std.specs.Prelude.{List, [], map, filter, not}
use Rattle.std.specs.FinSet.{contains, insert, remove}
use Rattle.hm_tree.specs.Names.{Name}
use Rattle.hm_schema.specs.declared.node.Shape.{Shape}
use Rattle.hm_schema.specs.Values.{NodeOver}
use Rattle.hm_schema.specs.Tidied.{has_name}
use Rattle.hm_schema.specs.Shapes.{shaped}

-- a shape with a name made required, and without it among the optional ones
abbrev pub requiring : Name → Shape → Shape
requiring m a = record { required = insert a.required m; optional = remove a.optional m; least = a.least; most = a.most }

abbrev pub lacking : Name → Shape → Shape
lacking m a = record { required = a.required; optional = remove a.optional m; least = a.least; most = a.most }

-- the shapes that have a name, which they then require, and those that don't require it, which then don't have it
abbrev pub shapes_with : Name → List Shape → List Shape
shapes_with m shapes = map (requiring m) (filter (λ a. has_name a m) shapes)

abbrev pub shapes_without : Name → List Shape → List Shape
shapes_without m shapes = map (lacking m) (filter (λ a. not (contains a.required m)) shapes)

abbrev pub node_with : {I : Type 0} → Name → NodeOver I → NodeOver I
node_with m n = shaped n (shapes_with m n.shapes) []

abbrev pub node_without : {I : Type 0} → Name → NodeOver I → NodeOver I
node_without m n = shaped n (shapes_without m n.shapes) []
