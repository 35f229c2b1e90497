-- What the edges of a view lead to, beside what those of its source do, where some of them have lenses.
use Rattle.std.specs.Prelude.{◌≡◌, ◌<◌, ℕ, Bool, true, cond, List, length, Option, Some, None, slice_get}
use Rattle.hm_tree.specs.declared.class.Class.{Class}
use Rattle.hm_tree.specs.Names.{Name}
use Rattle.hm_schema.specs.declared.node.NodeId.{NodeId}
use Rattle.hm_schema.specs.Values.{NodeValue}
use Rattle.hm_terms.specs.Lenses.{Lens}
use Rattle.hm_types_forms.specs.Forms.{named, others, can_be}
use Rattle.hm_types_rules.specs.Faults.{At}
use Rattle.hm_types_table.specs.Tables.{Nodes}
use Rattle.hm_types_terms.specs.Courses.{Scope, IsView, IsAt}

-- a lens goes from one node to the other, or there is no lens and it is the same node
pub record IsLed (scope : Scope) (old new : Nodes) (o : Option Lens) (i j : NodeId) : Type 0 where
  pub in_range : j.place < length new
  pub view : (l : Lens) → o ≡ Some l → IsView scope old new l i j
  pub stays : o ≡ None → j ≡ i

-- the listed names that have got their nodes, each with its lens if it has one
pub record AreLed (scope : Scope) (old new : Nodes) (on : Name → Option Lens) (cs : List (Name × NodeId)) (js : List NodeId) : Type 0 where
  pub each : (p : ℕ) (k : Name) (i j : NodeId) → slice_get cs p ≡ Some (k, i) → slice_get js p ≡ Some j → IsLed scope old new (on k) i j

-- all other names: of one class, if there are such
abbrev pub AreOthersLed : Scope → Nodes → Nodes → Option Lens → Option (Class × NodeId) → Option (Class × NodeId) → Type 0
AreOthersLed scope old new l None None = Unit {0}
AreOthersLed scope old new l None (Some p) = ⊥
AreOthersLed scope old new l (Some o) None = ⊥
AreOthersLed scope old new l (Some o) (Some p) = (p.0 ≡ o.0) × IsLed scope old new l o.1 p.1

-- ---- one lens on each step that something at a node may have

abbrev pub where_it_can : Bool → Lens → Option Lens
where_it_can can l = cond can (Some l) None

-- the listed name at a place
pub record IsListedBelow (scope : Scope) (old new : Nodes) (l : Lens) (n : NodeValue) (place : ℕ) (j : NodeId) : Type 0 where
  pub name : Name
  pub child : NodeId
  pub is : slice_get n.children place ≡ Some (name, child)
  pub led : IsLed scope old new (where_it_can (can_be n (named name)) l) child j

abbrev pub IsOtherBelow : Scope → Nodes → Nodes → Lens → NodeValue → Option (Class × NodeId) → Type 0
IsOtherBelow scope old new l n o = AreOthersLed scope old new (where_it_can (can_be n others) l) n.other o

-- the lens has no view there
pub record IsListedAt (scope : Scope) (nodes : Nodes) (l : Lens) (number : ℕ) (n : NodeValue) (place : ℕ) (a : At) : Type 0 where
  pub name : Name
  pub child : NodeId
  pub is : slice_get n.children place ≡ Some (name, child)
  pub can : can_be n (named name) ≡ true
  pub fault : IsAt scope nodes l number child a

pub record IsOtherAt (scope : Scope) (nodes : Nodes) (l : Lens) (number : ℕ) (n : NodeValue) (a : At) : Type 0 where
  pub class : Class
  pub child : NodeId
  pub is : n.other ≡ Some (class, child)
  pub can : can_be n others ≡ true
  pub fault : IsAt scope nodes l number child a
