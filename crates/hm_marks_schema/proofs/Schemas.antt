-- The schema of bookmarks is well formed, and no node of it has twins.
use Rattle.std.proofs.Common.{◌≡◌, ◌<◌, IsTrue, T, All, List, [], ◌∷◌, map, Some, None, Ok, refl, sym, ap, subst, ◌∙◌, arith}
use Rattle.std.proofs.lemmas.Option.{get_or_from_slice_get, slice_get_within}
use Rattle.std.proofs.lemmas.List.Elements.{All-nil, All-cons}
use Rattle.std.specs.List.{AllByRecursion}
use Rattle.std.specs.FinMap.{is_sorted}
use Rattle.std.specs.FinSet.{contains}
use Rattle.hm_tree.specs.declared.class.Class.TheVariants.{Clean}
use Rattle.hm_tree.specs.Names.{Name, name_cmp}
use Rattle.hm_tree.proofs.NameSets.{tied_one}
use Rattle.hm_schema.specs.declared.node.Node.{Node}
use Rattle.hm_schema.specs.declared.node.NodeId.{NodeId}
use Rattle.hm_schema.specs.Values.{NodeValue, OptionsValue, SchemaValue, node_value, schema_value, is_listed}
use Rattle.hm_schema.specs.WellFormed.{IsWellFormedShape, IsWellFormedNode, IsWellFormed}
use Rattle.hm_schema.specs.Membership.{HasNoTwins}
use Rattle.hm_schema.specs.OneName.{alone}
use Rattle.hm_schema.proofs.OneName.{in_alone}
use Rattle.hm_book_cards.specs.Books.{id}
use Rattle.hm_format.specs.Options.{bad_key}
use Rattle.hm_format.proofs.Accepted.{schema_given}
use Rattle.hm_book_cards.proofs.NodeShapes.{listed_names, well_exact, well_open, well_cards, well_more, well_empty}
use Rattle.hm_marks.specs.FolderTrees.{folder_name, url_name}
use Rattle.hm_marks_schema.specs.Schema.{top_node, folder_node, items_node, item_node, link_node, more_node, marks_schema, no_rules, schema_under}

-- what holds of each by recursion holds of all
all_each : {X : Type 0} (P : X → Type 0) (xs : List X) → AllByRecursion P xs → All P xs
all_each P [] h = All-nil P
all_each P (x ∷ xs) h = All-cons P x xs h.0 (all_each P xs h.1)

-- ---- well formed

abbrev IsFormed : NodeValue → Type 0
IsFormed n = IsWellFormedNode 7 n

top_rises : T (is_sorted name_cmp top_node.children)
unfolding name_cmp
top_rises = tt

item_rises : T (is_sorted name_cmp item_node.children)
unfolding name_cmp
item_rises = tt

top_formed : IsFormed top_node
top_formed = record {
  ascending = top_rises;
  children = all_each (λ (c : Name × NodeId). c.1.place < 7) top_node.children (omega arith, (omega arith, tt));
  other = tt;
  shapes = all_each (IsWellFormedShape top_node) top_node.shapes (well_exact top_node _ (λ k h. sym (listed_names top_node.children k) ∙ h), tt);
  some_shape = omega arith;
  twins = All-nil _;
}

-- each of its two names alone is listed
one_listed : (m k : Name) → IsTrue (is_listed item_node m) → IsTrue (contains (alone m) k) → IsTrue (is_listed item_node k)
one_listed m k listed at = ap (is_listed item_node) (tied_one k m (sym (in_alone m k) ∙ at)) ∙ listed

folder_listed : IsTrue (is_listed item_node folder_name)
unfolding name_cmp
folder_listed = refl

url_listed : IsTrue (is_listed item_node url_name)
unfolding name_cmp
url_listed = refl

item_formed : IsFormed item_node
item_formed = record {
  ascending = item_rises;
  children = all_each (λ (c : Name × NodeId). c.1.place < 7) item_node.children (omega arith, (omega arith, tt));
  other = tt;
  shapes = all_each (IsWellFormedShape item_node) item_node.shapes (
    well_exact item_node (alone folder_name) (λ k h. one_listed folder_name k folder_listed h),
    (well_exact item_node (alone url_name) (λ k h. one_listed url_name k url_listed h), tt),
  );
  some_shape = omega arith;
  twins = All-nil _;
}

open_formed : IsFormed folder_node
open_formed = well_open Clean 7 0 2 None (omega arith) tt

items_formed : IsFormed items_node
items_formed = well_cards 7 3 6 (omega arith) (omega arith)

link_formed : IsFormed link_node
link_formed = well_open Clean 7 1 5 (Some 1) (omega arith) (omega arith)

more_formed : IsFormed more_node
more_formed = well_more 7 3 6 (omega arith) (omega arith)

pub formed : IsWellFormed marks_schema
formed = record {
  nodes = all_each IsFormed marks_schema.nodes (top_formed, (open_formed, (items_formed, (item_formed, (link_formed, (well_empty 7, (more_formed, tt)))))));
  root = omega arith;
}

pub nodes_formed : (nodes : List Node) → map node_value nodes ≡ marks_schema.nodes → IsWellFormed (schema_value nodes (id 0))
nodes_formed nodes same = subst (λ ns. IsWellFormed (record { nodes = ns; root = id 0 })) (sym same) formed

-- ---- twins

abbrev IsPlain : NodeValue → Type 0
IsPlain n = n.twins ≡ []

all_plain : All IsPlain marks_schema.nodes
all_plain = all_each IsPlain marks_schema.nodes (refl, (refl, (refl, (refl, (refl, (refl, (refl, tt)))))))

-- no node of the schema has twins
pub no_twins : HasNoTwins marks_schema
no_twins i n at =
    subst IsPlain (get_or_from_slice_get marks_schema.nodes i.place n n at)
    (all_plain i.place n (slice_get_within marks_schema.nodes i.place n at))

-- ---- options

-- where options are accepted, the schema is that of bookmarks
pub schema_is : (o : OptionsValue) (s : SchemaValue) → schema_under o ≡ Ok s → marks_schema ≡ s
schema_is o s has = schema_given (bad_key no_rules o) marks_schema s has
