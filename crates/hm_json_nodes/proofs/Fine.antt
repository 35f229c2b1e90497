-- What is read of sound values is sound, and no deeper than they are.
use Rattle.std.proofs.Common.{◌<◌, ◌≤◌, ◌-◌, ℕ, IsUtf8, refl, arith}
use Rattle.hm_marks.specs.Contents.{nothing, link, folder, separator}
use Rattle.hm_marks_schema.proofs.Utf8Keys.{word_utf8}
use Rattle.hm_json_documents.specs.Documents.{ItemsAreSound, MembersAreSound}
use Rattle.hm_json_documents.proofs.Members.{put_sound, put_depth, found_sound, found_depth}
use Rattle.serde_json.specs.Data.{array, Items, no_items, Members, items_depth, members_depth}
use Rattle.hm_json_nodes.specs.Nodes.{children_key, Contents, AreNodes, no_nodes, a_link_node, a_folder_node}
use Rattle.hm_json_nodes.proofs.Deep.{children_found}

-- items are sound, and nest at most so deep
abbrev pub ItemsAreFine : ℕ → Items → Type 0
ItemsAreFine n ds = ItemsAreSound ds × (items_depth ds ≤ n)

-- members are sound, and so is an object of them, and it nests at most so deep
abbrev pub MembersAreFine : ℕ → Members → Type 0
MembersAreFine n ms = MembersAreSound ms × (members_depth ms < n)

-- links and folders are so, at each depth; what stands in a folder stands in two values more, its object and its array
abbrev pub IsFineAt : ℕ → Contents → Type 0
IsFineAt n nothing = Unit {0}
IsFineAt n (link ms rest) = MembersAreFine n ms × IsFineAt n rest
IsFineAt n (folder f inside rest) = MembersAreFine n f × IsFineAt (n - 2) inside × IsFineAt n rest
IsFineAt n (separator s rest) = IsFineAt n rest

pub children_utf8 : IsUtf8 children_key
children_utf8 = word_utf8 children_key refl

pub nodes_fine : (n : ℕ) (ds : Items) (c : Contents) → AreNodes ds c → ItemsAreFine n ds → IsFineAt n c
nodes_fine n _ _ no_nodes fine = tt
nodes_fine n _ _ (a_link_node {ms = ms} {ds = ds} {rest = rest} kind more) fine =
    let deep = fine.1 in
    ((fine.0.0, omega (arith, deep)), nodes_fine n ds rest more (fine.0.1, omega (arith, deep)))
nodes_fine n _ _ (a_folder_node {ms = ms} {children = children} {ds = ds} {inside = inside} {rest = rest} kind are within more) fine =
    let deep = fine.1 in
    let found = children_found ms children are in
    let inner = found_depth children_key (array children) ms found in
    let without = put_depth children_key (array no_items) ms (members_depth ms) (omega (arith, inner)) (omega arith) in (
      (put_sound children_key (array no_items) ms children_utf8 tt fine.0.0, omega (arith, deep, without)),
      nodes_fine (n - 2) children inside within (found_sound children_key (array children) ms found fine.0.0, omega (arith, deep, inner)),
      nodes_fine n ds rest more (fine.0.1, omega (arith, deep)),
    )
