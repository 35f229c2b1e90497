-- Nodes are read as they are spelled, and what is read may stand in a file.
use Rattle.std.proofs.Common.{◌≡◌, true, [], ap, ◌∙◌, subst}
use Rattle.std.specs.Prelude.{is_some, unwrap_or}
use Rattle.std.specs.Str.{bytes_eq}
use Rattle.std.proofs.lemmas.Bool.{and_parts, and_from}
use Rattle.hm_marks.specs.Contents.{nothing, link, folder, separator}
use Rattle.hm_json_documents.proofs.Members.{put_twice}
use Rattle.serde_json.specs.Data.{array, object, Items, no_items, item, Members}
use Rattle.hm_json_nodes.specs.Nodes.{type_key, name_key, children_key, folder_type, text_at, has_type, is_folder, filled, emptied, Contents, AreNodes, no_nodes, a_link_node, a_folder_node, IsFolder, MayStand, spelled}
use Rattle.hm_json_nodes.proofs.Filled.{text_filled, children_filled}

-- a folder is one with any children
pub folder_filled : (ds : Items) (ms : Members) → is_folder (object ms) ≡ true → is_folder (object (filled ds ms)) ≡ true
folder_filled ds ms is =
    let parts = and_parts (has_type folder_type (object ms)) _ is in
    and_from _ _ (ap (λ o. bytes_eq (unwrap_or o []) folder_type) (text_filled type_key ds ms (λ e. let bad : ⊥ = cc in bad)) ∙ parts.0)
    (and_from _ _ (ap is_some (text_filled name_key ds ms (λ e. let bad : ⊥ = cc in bad)) ∙ (and_parts (is_some (text_at name_key (object ms))) _ parts.1).0)
    (ap is_some (children_filled ds ms)))

emptied_filled : (ds : Items) (ms : Members) → IsFolder ms → emptied (filled ds ms) ≡ ms
emptied_filled ds ms is = put_twice children_key (array no_items) (array ds) ms ∙ is.empty

-- what is spelled is read again
pub spelled_read : (c : Contents) → MayStand c → AreNodes (spelled c) c
spelled_read nothing stand = no_nodes
spelled_read (link ms rest) stand = a_link_node stand.0 (spelled_read rest stand.1)
spelled_read (folder ms inside rest) stand =
    subst (λ f. AreNodes (item (object (filled (spelled inside) ms)) (spelled rest)) (folder f inside rest)) (emptied_filled (spelled inside) ms stand.0)
    (a_folder_node (folder_filled (spelled inside) ms stand.0.kind) (children_filled (spelled inside) ms) (spelled_read inside stand.1) (spelled_read rest stand.2))
spelled_read (separator s rest) stand = absurd s

-- what is read may stand in a file
pub nodes_stand : (ds : Items) (c : Contents) → AreNodes ds c → MayStand c
nodes_stand _ _ no_nodes = tt
nodes_stand _ _ (a_link_node {ds = ds} {rest = rest} kind more) = (kind, nodes_stand ds rest more)
nodes_stand _ _ (a_folder_node {ms = ms} {children = children} {ds = ds} {inside = inside} {rest = rest} kind are within more) = (
  record { kind = folder_filled no_items ms kind; empty = put_twice children_key (array no_items) (array no_items) ms },
  nodes_stand children inside within,
  nodes_stand ds rest more,
)
