-- Address books: below each key stands the list of the cards with it. A schema has their trees as its members.
use Rattle.std.specs.Prelude.{ℕ, ◌+◌, Bool, not, cond, List, [], ◌∷◌, ◌++◌, map, length, All, Option, Some, None}
use Rattle.std.specs.List.{list_any}
use Rattle.std.specs.FinSet.{from_list}
use Rattle.hm_tree.specs.declared.class.Class.{Class}
use Rattle.hm_tree.specs.declared.class.Class.TheVariants.{Filled}
use Rattle.hm_tree.specs.Classes.{IsFilled}
use Rattle.hm_tree.specs.Names.{Name, name_cmp}
use Rattle.hm_tree.specs.Nodes.{Tree, edges}
use Rattle.hm_schema.specs.declared.node.NodeId.{NodeId}
use Rattle.hm_schema.specs.declared.node.Shape.{Shape}
use Rattle.hm_schema.specs.Values.{NodeValue, SchemaValue}
use Rattle.hm_tree_parts.specs.Lists.{head, tail}
use Rattle.hm_schema_lists.specs.ListNodes.{no_names, empty_shape, item_shape}
use Rattle.hm_book_items.specs.Items.{IsTree}
use Rattle.hm_book_items.specs.ItemTrees.{AreLists}
use Rattle.hm_book_cards.specs.Cards.{Shown, IsCard}

-- ---- books

-- below keys that aren't of spaces alone stand lists of cards, none of which is empty
pub record IsBook (shown : Shown) (t : Tree) : Type 0 where
  pub lists : List (Name × List Tree)
  pub tree_is : IsTree name_cmp lists
  pub below : AreLists (edges t) lists
  pub keys : All (λ l. IsFilled l.0) lists
  pub cards : All (λ l. All (IsCard shown) l.1) lists

-- ---- the schema of books

abbrev pub id : ℕ → NodeId
id place = record { place = place }

-- a node that lists no names: the others are of a class, so many at least and at most, and lead to a place
abbrev pub open_node : Class → ℕ → Option ℕ → ℕ → NodeValue
open_node class least most place = record {
  shapes = record { required = no_names; optional = no_names; least = least; most = most } ∷ [];
  children = [];
  other = Some (class, id place);
  twins = [];
}

-- a node of lists: what their items lead to, and the others of a list
abbrev pub list_node : List Shape → ℕ → ℕ → NodeValue
list_node shapes item rest = record { shapes = shapes; children = (head, id item) ∷ (tail, id rest) ∷ []; other = None; twins = [] }

-- a text, or many; what stands below them is at place 4
abbrev pub texts_node : Bool → NodeValue
texts_node many = open_node Filled 1 (cond many None (Some 1)) 4

abbrev pub empty_node : NodeValue
empty_node = record { shapes = empty_shape ∷ []; children = []; other = None; twins = [] }

-- whether a name may have one text, and this many, or the other way round
abbrev pub differs : Bool → Name × Bool → Bool
differs many s = cond many (not s.1) s.1

-- whether there may be many texts, in the order in which names say so first
abbrev pub kinds : Shown → List Bool
kinds [] = []
kinds (s ∷ shown) = s.1 ∷ cond (list_any (differs s.1) shown) (not s.1 ∷ []) []

-- the nodes of texts, from place 3 on: the first is followed by the one node of what stands below texts
abbrev pub texts_nodes : List Bool → List NodeValue
texts_nodes [] = []
texts_nodes (many ∷ others) = texts_node many ∷ empty_node ∷ map texts_node others

-- where the node of one text stands, or that of many
abbrev pub texts_place : List Bool → Bool → ℕ
texts_place [] many = 3
texts_place (first ∷ others) many = cond (cond first many (not many)) 3 5

-- a card has any of its names, and no others
abbrev pub card_shape : Shown → Shape
card_shape shown = record { required = no_names; optional = from_list (map (λ s. s.0) shown); least = 0; most = Some 0 }

abbrev pub card_node : Shown → NodeValue
card_node shown = record {
  shapes = card_shape shown ∷ [];
  children = map (λ s. (s.0, id (texts_place (kinds shown) s.1))) shown;
  other = None;
  twins = [];
}

-- where the node of what follows in a list stands
abbrev pub more_place : Shown → ℕ
more_place shown = 3 + length (texts_nodes (kinds shown))

abbrev pub book_nodes : Shown → List NodeValue
book_nodes shown =
    open_node Filled 0 None 1 ∷ list_node (item_shape ∷ []) 2 (more_place shown) ∷ card_node shown ∷ (texts_nodes (kinds shown)
    ++ list_node (empty_shape ∷ item_shape ∷ []) 2 (more_place shown) ∷ [])

abbrev pub book_schema : Shown → SchemaValue
book_schema shown = record { nodes = book_nodes shown; root = id 0 }
