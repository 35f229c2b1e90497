-- The schema that a form is written as: its nodes, tidied, those that are the same once, in the order of a first visit that
-- goes depth first.
use Rattle.std.specs.Prelude.{◌≡◌, List, [], ◌∷◌, ◌++◌, map, All, Contains, slice_get, Option, Some, None}
use Rattle.std.specs.List.{AllZip}
use Rattle.hm_tree.specs.declared.class.Class.{Class}
use Rattle.hm_tree.specs.Names.{Name}
use Rattle.hm_schema.specs.declared.node.NodeId.{NodeId}
use Rattle.hm_schema.specs.Values.{NodeOver, NodeValue, SchemaValue}
use Rattle.hm_schema.specs.Tidied.{tidied}
use Rattle.hm_schema.specs.Sameness.{AreOthers}
use Rattle.hm_types_forms.specs.Forms.{Form, node_of}
use Rattle.hm_types_forms.specs.SameForms.{IsSame}

-- what the edges of a node lead to: by its listed names in ascending order, and then by all other names
abbrev pub other_forms : Option (Class × Form) → List Form
other_forms None = []
other_forms (Some o) = o.1 ∷ []

abbrev pub forms_below : NodeOver Form → List Form
forms_below n = map (λ (c : Name × Form). c.1) n.children ++ other_forms n.other

-- from the forms visited so far and those still to visit, in this order, to all that are visited in the end
pub data Visits : List Form → List Form → List Form → Type 0 where
  done : {seen : List Form} → Visits seen [] seen
  -- the same form was visited before
  again : {u v : Form} {seen todo all : List Form} → Contains seen v → IsSame u v → Visits seen todo all → Visits seen (u ∷ todo) all
  -- none was: what it leads to comes next
  first : {u : Form} {n : NodeOver Form} {seen todo all : List Form} → All (λ v. ¬ (IsSame u v)) seen → node_of u ≡ Some n
      → Visits (seen ++ u ∷ []) (forms_below (tidied n) ++ todo) all → Visits seen (u ∷ todo) all

-- j is the number of a visited form that u is the same as
pub record IsNumberOf (order : List Form) (u : Form) (j : NodeId) : Type 0 where
  pub visited : Form
  pub is : slice_get order j.place ≡ Some visited
  pub same : IsSame u visited

-- the elements of a list, each once, where it stands first
pub data IsDistinct {X : Type 0} : List X → List X → List X → Type 0 where
  none_left : {seen : List X} → IsDistinct seen [] []
  repeated : {x : X} {seen xs ys : List X} → Contains seen x → IsDistinct seen xs ys → IsDistinct seen (x ∷ xs) ys
  new : {x : X} {seen xs ys : List X} → ¬ (Contains seen x) → IsDistinct (seen ++ x ∷ []) xs ys → IsDistinct seen (x ∷ xs) (x ∷ ys)

-- a node is that of a visited form, tidied, without repeated shapes, and over the numbers of visited forms
pub record StandsFor (order : List Form) (n : NodeValue) (u : Form) : Type 0 where
  pub node : NodeOver Form
  pub is : node_of u ≡ Some node
  pub shapes : IsDistinct [] (tidied node).shapes n.shapes
  pub children : AllZip (λ c d. (c.0 ≡ d.0) × IsNumberOf order c.1 d.1) (tidied node).children n.children
  pub other : AreOthers (IsNumberOf order) (tidied node).other n.other
  pub twins : n.twins ≡ node.twins

pub record IsNumbered (u : Form) (s : SchemaValue) : Type 0 where
  pub order : List Form
  pub visits : Visits [] (u ∷ []) order
  pub nodes : AllZip (StandsFor order) s.nodes order
  pub root : s.root.place ≡ 0
