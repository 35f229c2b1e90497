use Rattle.std.proofs.Common.{◌≡◌, Some, sym, ap, ◌∙◌, subst}
use Rattle.serde_json.specs.Data.{Data, array, object, put, no_items, Items, Members}
use Rattle.serde_json.specs.View.{items_view}
use Rattle.serde_json.proofs.Views.{view-Array, view-Object}
use Rattle.hm_json_documents.proofs.Members.{put_twice}
use Rattle.hm_json_nodes.specs.Nodes.{children_key, children_of, Contents, AreNodes}
use Rattle.hm_json_nodes.specs.Anew.{IsFolderWith}
use Rattle.hm_json_nodes.proofs.writing.folder_written.Goals as goal

-- what a folder's node has for children
children_in : (members : Members) (children : Items) (c : Contents) (d : Data) → IsFolderWith members children c d → children_of d ≡ Some children
children_in members children c d w = subst (λ d. children_of d ≡ Some children) (sym w.is) w.children_are

pub emptied-requires : goal.emptied-requires
emptied-requires c = let w = c.requires.node.3 in (c.requires.node.0, c.requires.node.1, w.is, w.children_are)

pub nodes_anew-requires : goal.nodes_anew-requires
nodes_anew-requires c =
    let w = c.requires.node.3 in
    let same = c.in_ok-members.ensures.children c.requires.node.1 (children_in _ _ _ _ w) in
    record { nodes = (c.requires.node.2, subst (λ ds. AreNodes ds c.requires.node.2) (sym same) w.nodes); tree = c.requires.tree }

pub returns : goal.returns
returns c = λ members children all w.
    let same = c.in_ok-members.ensures.children children (children_in _ _ _ _ w) in
    record {
      children = items_view c.in_ok-nodes.nodes.items;
      anew = c.in_ok-nodes.ensures all (subst (λ ds. AreNodes ds all) (sym same) w.nodes);
      is =
          view-Object c.set.new.members
          ∙ ap object (c.in_ok-set.ensures ∙ (λ i. put children_key (view-Array c.in_ok-nodes.nodes i) (c.in_ok-members.ensures.members members w.is i))
          ∙ put_twice children_key (array (items_view c.in_ok-nodes.nodes.items)) (array no_items) members);
    }
