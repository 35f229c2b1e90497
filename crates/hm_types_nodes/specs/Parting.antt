-- The two nodes that the lenses of a fork are checked at: the names of a node that are in a set, and its other names.
use Rattle.std.specs.Prelude.{◌≡◌, ◌&&◌, Bool, not, IsTrue, [], ◌∷◌, Some, All, filter}
use Rattle.std.specs.FinSet.{retain}
use Rattle.hm_tree.specs.Names.{Name}
use Rattle.hm_schema.specs.declared.node.Shape.{Shape}
use Rattle.hm_schema.specs.Values.{NodeOver, is_listed}
use Rattle.hm_schema.specs.Tidied.{has_name}
use Rattle.hm_schema.specs.Shapes.{IsShut, shaped}

-- the names of a shape that pass a test, and no unlisted ones; and its other names, with its count
abbrev pub shape_in : (Name → Bool) → Shape → Shape
shape_in p a = record { required = retain a.required p; optional = retain a.optional p; least = 0; most = Some 0 }

abbrev pub shape_out : (Name → Bool) → Shape → Shape
shape_out p a = record { required = retain a.required (λ k. not (p k)); optional = retain a.optional (λ k. not (p k)); least = a.least; most = a.most }

-- a shape has both names of a twin
abbrev pub has_twin : Shape → Name × Name → Bool
has_twin a twin = has_name a twin.0 && has_name a twin.1

-- a node with a part of its one shape, and with the twins among the names of that
abbrev pub part_node : {I : Type 0} → NodeOver I → Shape → NodeOver I
part_node n a = shaped n (a ∷ []) (filter (has_twin a) n.twins)

-- each name that passes is listed, or no unlisted name is let in
pub data Parts {I : Type 0} (n : NodeOver I) (a : Shape) (p : Name → Bool) : Type 0 where
  listed : ((k : Name) → IsTrue (p k) → IsTrue (is_listed n k)) → Parts n a p
  shut : IsShut a → Parts n a p

-- a node of one shape can be parted by a test of names
pub record IsParted {I : Type 0} (p : Name → Bool) (n : NodeOver I) (a : Shape) : Type 0 where
  pub one : n.shapes ≡ a ∷ []
  pub parts : Parts n a p
  -- no twin has a name that passes and one that doesn't
  pub twins : All (λ (twin : Name × Name). p twin.0 ≡ p twin.1) n.twins
