-- What a lens that hides a copy asks, as it is read off the nodes of a table.
use Rattle.std.specs.Prelude.{◌≡◌, ◌≢◌, All, Option, Some}
use Rattle.hm_tree.specs.Names.{Name}
use Rattle.hm_schema.specs.declared.node.NodeId.{NodeId}
use Rattle.hm_types_forms.specs.Forms.{form}
use Rattle.hm_types_forms.specs.SameForms.{IsSame}
use Rattle.hm_schema.specs.Shapes.{Requires}
use Rattle.hm_types_table.specs.declared.kind.NodeKind.{NodeKind}
use Rattle.hm_types_table.specs.Tables.{Nodes}

-- two places of a table stand for the same
abbrev pub StandForSame : Nodes → NodeId → NodeId → Type 0
StandForSame nodes i j = IsSame (form nodes i) (form nodes j)

-- where both lead somewhere, they lead to the same
abbrev pub LeadToSame : Nodes → Option NodeId → Option NodeId → Type 0
LeadToSame nodes one two = (i j : NodeId) → one ≡ Some i → two ≡ Some j → StandForSame nodes i j

-- two different names are required in every shape, and there is no other twin
pub record CanHideKind (m n : Name) (k : NodeKind) : Type 0 where
  pub apart : m ≢ n
  pub first : All (Requires m) k.shapes.items
  pub second : All (Requires n) k.shapes.items
  pub twins : All (λ twin. twin ≡ (m, n)) k.twins.items
