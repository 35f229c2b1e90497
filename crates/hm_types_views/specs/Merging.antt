-- What a conditional that its view tells apart asks of two views, as it is read off the nodes of a table.
use Rattle.std.specs.Prelude.{◌≡◌, ◌⊎◌, false, List, [], Option, Some, All}
use Rattle.std.specs.FinMap.{find}
use Rattle.hm_tree.specs.declared.class.Class.{Class}
use Rattle.hm_tree.specs.Names.{Name, name_cmp}
use Rattle.hm_schema.specs.declared.node.NodeId.{NodeId}
use Rattle.hm_schema.specs.Values.{NodeValue}
use Rattle.hm_schema.specs.Tidied.{has_name}
use Rattle.hm_schema.specs.Shapes.{IsShut, Requires}
use Rattle.hm_types_table.specs.declared.kind.NodeKind.{NodeKind}
use Rattle.hm_types_views.specs.Conditions.{IsIn}
use Rattle.hm_types_views.specs.Hiding.{StandForSame, LeadToSame}
use Rattle.hm_types_table.specs.Tables.{Nodes}

-- each of some names is among others
abbrev pub AreAmong : List Name → List Name → Type 0
AreAmong ks ms = (k : Name) → IsIn ks k → IsIn ms k

-- two kinds list the same names
pub record ListAlike (one two : NodeKind) : Type 0 where
  pub into : AreAmong one.names.items two.names.items
  pub from : AreAmong two.names.items one.names.items

pub record AreShut (one two : NodeKind) : Type 0 where
  pub first : All IsShut one.shapes.items
  pub second : All IsShut two.shapes.items

-- each shape of the first requires a name, and none of the second has it
pub record AreApart (m : Name) (one two : NodeKind) : Type 0 where
  pub required : All (Requires m) one.shapes.items
  pub absent : All (λ b. has_name b m ≡ false) two.shapes.items

-- so they are told apart, and an unlisted name is let in only where it doesn't matter which names are listed
pub record CanMergeKinds (m : Name) (one two : NodeKind) : Type 0 where
  pub apart : AreApart m one two
  pub lists : All IsShut two.shapes.items ⊎ IsIn two.names.items m
  pub listed : AreShut one two ⊎ ListAlike one two
  pub plain_one : one.twins.items ≡ []
  pub plain_two : two.twins.items ≡ []

abbrev pub OthersAgree : Nodes → Option (Class × NodeId) → Option (Class × NodeId) → Type 0
OthersAgree nodes one two = (x y : Class × NodeId) → one ≡ Some x → two ≡ Some y → (x.0 ≡ y.0) × StandForSame nodes x.1 y.1

-- names that both nodes list lead to the same, and so do all other names, of which there is one class
pub record NodesAgree (nodes : Nodes) (n m : NodeValue) : Type 0 where
  pub names : (k : Name) → LeadToSame nodes (find name_cmp k n.children) (find name_cmp k m.children)
  pub others : OthersAgree nodes n.other m.other
