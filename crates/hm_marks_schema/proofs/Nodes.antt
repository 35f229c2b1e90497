-- Which trees stand at the nodes of the schema of bookmarks, each by what stands at those that it leads to.
use Rattle.std.proofs.Common.{◌≡◌, All, [], refl, subst, arith}
use Rattle.std.proofs.lemmas.List.Elements.{All-nil}
use Rattle.hm_tree.specs.declared.class.Class.TheVariants.{Clean}
use Rattle.hm_tree.specs.Classes.{IsClean}
use Rattle.hm_tree.specs.Nodes.{Tree, edges, empty}
use Rattle.hm_tree_parts.specs.Edges.{IsEdge}
use Rattle.hm_schema.specs.Shapes.{RequiresTwin}
use Rattle.hm_schema.specs.Standing.{Alike}
use Rattle.hm_schema.proofs.Elements.{all_one}
use Rattle.hm_schema.proofs.StandingTrees.{alike_then, members_alike, Inside}
use Rattle.hm_schema_lists.specs.ListNodes.{empty_shape}
use Rattle.hm_schema_lists.specs.Values.{value_shape, IsValueNode}
use Rattle.hm_schema_lists.proofs.Values.{empty_alike, value_stands, stands_value}
use Rattle.hm_book_cards.specs.Books.{id, empty_node}
use Rattle.hm_book_cards.proofs.NodeShapes.{well_empty}
use Rattle.hm_book_cards.proofs.CardLists.{Items, lists_alike}
use Rattle.hm_book_cards.proofs.BookTrees.{IsEntry, lists_below, entries}
use Rattle.hm_book_cards.proofs.OpenLists.{open_lists}
use Rattle.hm_marks_schema.specs.Schema.{folder_node, link_node, marks_schema}
use Rattle.hm_marks_schema.specs.Members.{IsAt, IsFolderOf, HasAddress}

-- ---- folders

pub items_alike : Alike (IsAt 2) (Items (IsAt 3))
items_alike = lists_alike marks_schema 3 6 (id 2) refl refl (IsAt 3) (record { into = λ t h. h; from = λ t h. h })

pub entries_alike : Alike (IsAt 1) (λ t. All (IsEntry IsClean (IsAt 3)) (edges t))
entries_alike = alike_then (members_alike marks_schema (id 1) folder_node refl) (open_lists (Inside marks_schema) Clean 2 (IsAt 3) items_alike)

lists_from : (t : Tree) → All (IsEntry IsClean (IsAt 3)) (edges t) → IsFolderOf (IsAt 3) t
lists_from t all =
    let b = lists_below IsClean (IsAt 3) t all in
    record { lists = b.0.lists; below = b.0.below; tree = b.1; keys = b.0.keys; items = b.0.items }

lists_into : (t : Tree) → IsFolderOf (IsAt 3) t → All (IsEntry IsClean (IsAt 3)) (edges t)
lists_into t h = entries IsClean (IsAt 3) t h.lists h.below h.tree h.keys h.items

pub folder_alike : Alike (IsAt 1) (IsFolderOf (IsAt 3))
folder_alike = alike_then entries_alike (record { into = lists_from; from = lists_into })

-- ---- links

below_link : Alike (IsAt 5) (λ t. t ≡ empty)
below_link = alike_then (members_alike marks_schema (id 5) empty_node refl)
    (empty_alike (Inside marks_schema) empty_node (all_one (λ a. a ≡ empty_shape) empty_shape refl) (omega arith) (well_empty 0).shapes
    (all_one (λ a. All (RequiresTwin a) []) empty_shape (All-nil (RequiresTwin empty_shape))))

link_value : IsValueNode Clean (id 5) link_node
link_value = record { shapes = all_one (λ a. a ≡ value_shape) value_shape refl; unlisted = refl; other = refl }

pub link_alike : Alike (IsAt 4) HasAddress
link_alike = alike_then (members_alike marks_schema (id 4) link_node refl) (record {
  into = λ t h.
      let v = stands_value (Inside marks_schema) Clean (id 5) link_node link_value t h in
      record { text = v.name; is = subst (λ x. IsEdge v.name x t) (below_link.into v.tree v.inside) v.is; clean = v.in_class };
  from = λ t a.
      value_stands (Inside marks_schema) Clean (id 5) link_node link_value (omega arith) refl a.text empty t a.is a.clean (below_link.from empty refl);
})
