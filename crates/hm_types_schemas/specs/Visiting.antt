-- A visit of the nodes that are reached, as far as it has come.
use Rattle.std.specs.Prelude.{◌≡◌, ℕ, ◌+◌, ◌<◌, cond, List, [], ◌∷◌, map, length, All, Some, is_some, reverse, slice_get}
use Rattle.hm_schema.specs.declared.node.NodeId.{NodeId}
use Rattle.hm_schema.specs.Tidied.{tidied}
use Rattle.hm_types_forms.specs.Forms.{Form, form}
use Rattle.hm_types_rules.specs.Numbering.{Visits}
use Rattle.hm_types_table.specs.Tables.{Nodes}
use Rattle.hm_types_schemas.specs.Ends.{ends}
use Rattle.hm_types_schemas.specs.Marks.{Marks, mark_at, class_of}

-- a visited node, with its class
pub record IsMarked (classes : List ℕ) (order : List NodeId) (c k : ℕ) : Type 0 where
  pub node : NodeId
  pub is : slice_get order k ≡ Some node
  pub class : class_of classes node ≡ c

-- the nodes visited so far, the numbers of their classes, and a stack of nodes still to visit: what is visited in the end
-- from there is what is visited from the root
pub record IsVisit (nodes : Nodes) (classes : List ℕ) (root : NodeId) (order : List NodeId) (marks : Marks) (todo : List NodeId) : Type 0 where
  pub inside : All (λ j. j.place < length nodes) order
  pub waiting : All (λ j. j.place < length nodes) (reverse todo)
  pub marked : (k : ℕ) (j : NodeId) → slice_get order k ≡ Some j → mark_at marks (class_of classes j) ≡ Some k
  pub known : (c k : ℕ) → mark_at marks c ≡ Some k → IsMarked classes order c k
  pub visits : (all : List Form) → Visits (map (form nodes) order) (map (form nodes) (reverse todo)) all → Visits [] (form nodes root ∷ []) all

-- how many edges nodes have whose classes have no numbers
abbrev pub owed : Nodes → List ℕ → Marks → ℕ
owed [] cs marks = 0
owed (n ∷ ns) [] marks = 0
owed (n ∷ ns) (c ∷ cs) marks = cond (is_some (mark_at marks c)) 0 (length (ends (tidied n))) + owed ns cs marks
