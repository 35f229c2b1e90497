-- What a value is as a node.
use Rattle.std.specs.Prelude.{ℕ, cond, List, [], unwrap_or}
use Rattle.serde_json.specs.Data.{Data, Items, no_items}
use Rattle.serde_json.specs.View.{items_view}
use Rattle.hm_json_nodes.specs.Nodes.{text_at, children_of, name_key, url_key, is_link, is_folder}
use Rattle.hm_json_nodes.specs.declared.kind.Kind.{Kind}
use Rattle.hm_json_nodes.specs.declared.kind.Kind.TheVariants as kind

-- a link by its name and its address, a folder by its name and its children, or neither
pub data SeenKind : Type 0 where
  a_link : List ℕ → List ℕ → SeenKind
  a_folder : List ℕ → Items → SeenKind
  neither : SeenKind

abbrev pub kind_seen : Kind → SeenKind
kind_seen (kind.Link name address) = a_link name.now address.now
kind_seen (kind.Folder name children) = a_folder name.now (items_view children.now.items)
kind_seen kind.Neither = neither

abbrev pub kind_of : Data → SeenKind
kind_of d =
    cond (is_link d) (a_link (unwrap_or (text_at name_key d) []) (unwrap_or (text_at url_key d) []))
    (cond (is_folder d) (a_folder (unwrap_or (text_at name_key d) []) (unwrap_or (children_of d) no_items)) neither)
