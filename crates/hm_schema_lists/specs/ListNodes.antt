-- The nodes of lists: an empty tree, or an item under *h and the rest of the list under *t.
use Rattle.std.specs.Prelude.{◌≡◌, ◌⊎◌, [], ◌∷◌, Some, All, Any}
use Rattle.std.specs.FinSet.{from_list}
use Rattle.hm_schema.specs.declared.node.Shape.{Shape}
use Rattle.hm_schema.specs.Values.{Names, NodeOver, child_of}
use Rattle.hm_tree_parts.specs.Lists.{head, tail}
use Rattle.hm_schema_lists.specs.Plain.{exact_shape, IsOf}

-- the names of an empty list, and those of an item with the rest of a list
abbrev pub no_names : Names
no_names = from_list []

abbrev pub item_names : Names
item_names = from_list (head ∷ tail ∷ [])

abbrev pub empty_shape : Shape
empty_shape = exact_shape no_names

abbrev pub item_shape : Shape
item_shape = exact_shape item_names

-- a node, tidied, has the empty shape and that of an item, and no others; what is under *t is the same as the node itself,
-- which is s
pub record IsListNode {I : Type 0} (R : I → I → Type 0) (s : I) (n : NodeOver I) : Type 0 where
  pub plain : n.twins ≡ []
  pub shapes : All (λ a. (a ≡ empty_shape) ⊎ (a ≡ item_shape)) n.shapes
  pub empty : Any (λ a. a ≡ empty_shape) n.shapes
  pub item : Any (λ a. a ≡ item_shape) n.shapes
  pub first : I
  pub first_is : child_of n head ≡ Some first
  pub rest : I
  pub rest_is : child_of n tail ≡ Some rest
  pub itself : R rest s

-- all trees at a node have an item and a rest; what is under *t is a list node, and its items are as the first one is
pub record IsItemNode {I : Type 0} (R : I → I → Type 0) (n list : NodeOver I) : Type 0 where
  pub names : IsOf item_names n
  pub first : I
  pub first_is : child_of n head ≡ Some first
  pub rest : I
  pub rest_is : child_of n tail ≡ Some rest
  pub others : IsListNode R rest list
  pub alike : R others.first first
