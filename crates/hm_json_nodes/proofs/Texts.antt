-- The keys and addresses of nodes are clean, and UTF-8 where their values are sound.
use Rattle.std.proofs.Common.{◌≡◌, ℕ, List, [], Option, Some, None, IsUtf8, refl}
use Rattle.std.specs.Prelude.{option_and_then, unwrap_or}
use Rattle.std.proofs.lemmas.Str.{IsUtf8-nil}
use Rattle.hm_tree.proofs.Classed.{cleaned-cleaned}
use Rattle.hm_tree.proofs.CleanText.{cleaned_utf8}
use Rattle.hm_marks_schema.specs.Bookmarks.{HaveCleanTexts, HaveUtf8Texts}
use Rattle.hm_marks_schema.proofs.Utf8Keys.{word_utf8}
use Rattle.hm_json_documents.specs.Documents.{IsSound, ItemsAreSound, MembersAreSound}
use Rattle.hm_json_documents.proofs.Members.{found_sound, put_sound}
use Rattle.serde_json.specs.Data.{Data, null, boolean, number, string, array, object, Items, no_items, Members}
use Rattle.serde_json.specs.Find.{get_member, as_str}
use Rattle.hm_json_nodes.specs.Nodes.{name_key, url_key, children_key, text_at, name_at, emptied, json, Contents, AreNodes, no_nodes, a_link_node, a_folder_node}
use Rattle.hm_json_nodes.proofs.Deep.{children_found}

pub nodes_clean : (ds : Items) (c : Contents) → AreNodes ds c → HaveCleanTexts json c
nodes_clean _ _ no_nodes = tt
nodes_clean _ _ (a_link_node {ms = ms} {ds = ds} {rest = rest} kind more) =
    ((cleaned-cleaned (unwrap_or (text_at name_key (object ms)) []), cleaned-cleaned (unwrap_or (text_at url_key (object ms)) [])), nodes_clean ds rest more)
nodes_clean _ _ (a_folder_node {ms = ms} {children = children} {ds = ds} {inside = inside} {rest = rest} kind are within more) =
    (cleaned-cleaned (unwrap_or (text_at name_key (object (emptied ms))) []), nodes_clean children inside within, nodes_clean ds rest more)

-- ---- UTF-8

text_utf8 : (o : Option Data) → ((d : Data) → o ≡ Some d → IsSound d) → IsUtf8 (unwrap_or (option_and_then as_str o) [])
text_utf8 None sound = IsUtf8-nil
text_utf8 (Some null) sound = IsUtf8-nil
text_utf8 (Some (boolean b)) sound = IsUtf8-nil
text_utf8 (Some (number n)) sound = IsUtf8-nil
text_utf8 (Some (string s)) sound = sound (string s) refl
text_utf8 (Some (array ds)) sound = IsUtf8-nil
text_utf8 (Some (object ms)) sound = IsUtf8-nil

name_utf8 : (k : List ℕ) (ms : Members) → MembersAreSound ms → IsUtf8 (name_at k ms)
name_utf8 k ms sound =
    cleaned_utf8 (unwrap_or (text_at k (object ms)) []) (text_utf8 (get_member k ms) (λ d is. found_sound k d ms is sound))

pub nodes_texts : (ds : Items) (c : Contents) → AreNodes ds c → ItemsAreSound ds → HaveUtf8Texts json c
nodes_texts _ _ no_nodes sound = tt
nodes_texts _ _ (a_link_node {ms = ms} {ds = ds} {rest = rest} kind more) sound =
    ((name_utf8 name_key ms sound.0, name_utf8 url_key ms sound.0), nodes_texts ds rest more sound.1)
nodes_texts _ _ (a_folder_node {ms = ms} {children = children} {ds = ds} {inside = inside} {rest = rest} kind are within more) sound = (
  name_utf8 name_key (emptied ms) (put_sound children_key (array no_items) ms (word_utf8 children_key refl) tt sound.0),
  nodes_texts children inside within (found_sound children_key (array children) ms (children_found ms children are) sound.0),
  nodes_texts ds rest more sound.1,
)
