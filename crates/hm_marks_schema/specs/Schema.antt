-- The schema of bookmarks, its nodes numbered as a check numbers those of a view.
use Rattle.std.specs.Prelude.{[], ◌∷◌, Some, None, Result, codes}
use Rattle.std.specs.FinSet.{from_list}
use Rattle.hm_tree.specs.declared.class.Class.TheVariants.{Clean}
use Rattle.hm_tree.specs.Names.{Name}
use Rattle.hm_schema.specs.Values.{NodeValue, OptionsValue, SchemaValue}
use Rattle.hm_schema.specs.OneName.{alone}
use Rattle.hm_schema_lists.specs.Plain.{exact_shape}
use Rattle.hm_schema_lists.specs.ListNodes.{empty_shape, item_shape}
use Rattle.hm_book_cards.specs.Books.{id, open_node, list_node, empty_node}
use Rattle.hm_format.specs.Options.{Rules, accepted, bad_key}
use Rattle.hm_marks.specs.FolderTrees.{folder_name, url_name}

-- the names of the two folders at the top
abbrev pub bar_name : Name
bar_name = codes "bar"

abbrev pub other_name : Name
other_name = codes "other"

abbrev pub top_node : NodeValue
top_node = record {
  shapes = exact_shape (from_list (bar_name ∷ other_name ∷ [])) ∷ [];
  children = (bar_name, id 1) ∷ (other_name, id 1) ∷ [];
  other = None;
  twins = [];
}

-- a folder: below each key a list of items
abbrev pub folder_node : NodeValue
folder_node = open_node Clean 0 None 2

-- a list with an item at least
abbrev pub items_node : NodeValue
items_node = list_node (item_shape ∷ []) 3 6

-- an item is a folder or a link
abbrev pub item_node : NodeValue
item_node = record {
  shapes = exact_shape (alone folder_name) ∷ exact_shape (alone url_name) ∷ [];
  children = (folder_name, id 1) ∷ (url_name, id 4) ∷ [];
  other = None;
  twins = [];
}

-- a link: one address
abbrev pub link_node : NodeValue
link_node = open_node Clean 1 (Some 1) 5

-- the list of the other items
abbrev pub more_node : NodeValue
more_node = list_node (empty_shape ∷ item_shape ∷ []) 3 6

abbrev pub marks_schema : SchemaValue
marks_schema = record { nodes = top_node ∷ folder_node ∷ items_node ∷ item_node ∷ link_node ∷ empty_node ∷ more_node ∷ []; root = id 0 }

-- a file of bookmarks has no options
abbrev pub no_rules : Rules
no_rules = []

-- the schema of its trees, or the first key, where there is one
abbrev pub schema_under : OptionsValue → Result SchemaValue Name
schema_under o = accepted (bad_key no_rules o) marks_schema
