-- Nodes of lists, as they are read off a table.
use Rattle.std.specs.Prelude.{◌≡◌, ◌⊎◌, Bool, true, false, [], All, Any}
use Rattle.hm_schema.specs.declared.node.Shape.{Shape}
use Rattle.hm_schema_lists.specs.ListNodes.{empty_shape, item_shape}
use Rattle.hm_types_forms.specs.Forms.{Form}
use Rattle.hm_types_rules.specs.Typing.{IsList, IsItems}
use Rattle.hm_types_table.specs.declared.kind.NodeKind.{NodeKind}

-- the form of lists, or of lists with an item at least
abbrev pub IsListOf : Bool → Form → Form → Bool → Type 0
IsListOf true u first empty_first = IsItems u first empty_first
IsListOf false u first empty_first = IsList u first empty_first

abbrev pub IsPart : Shape → Type 0
IsPart a = (a ≡ empty_shape) ⊎ (a ≡ item_shape)

-- a form is neither that of lists nor of lists with an item at least
pub record IsNoList (u : Form) : Type 0 where
  pub list : (first : Form) (empty_first : Bool) → ¬ (IsList u first empty_first)
  pub items : (first : Form) (empty_first : Bool) → ¬ (IsItems u first empty_first)

-- the shapes are those of a list
pub record IsListKind (k : NodeKind) : Type 0 where
  pub plain : k.twins.items ≡ []
  pub shapes : All IsPart k.shapes.items
  pub empty : Any (λ a. a ≡ empty_shape) k.shapes.items

-- they are those of a list with an item at least
pub record IsItemKind (k : NodeKind) : Type 0 where
  pub plain : k.twins.items ≡ []
  pub shapes : All (λ a. a ≡ item_shape) k.shapes.items
