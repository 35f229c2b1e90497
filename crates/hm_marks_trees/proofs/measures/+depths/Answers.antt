use Rattle.std.proofs.Common.{ℕ, take, ap, ◌∷◌, [], ◌++◌, sym, ◌∙◌, subst, List}
use Rattle.std.proofs.lemmas.List.{take_more, take_all}
use Rattle.std.proofs.lemmas.Result.{IfOk-weaker}
use Rattle.hm_tree.specs.Names.{Name}
use Rattle.hm_marks_trees.specs.declared.node.Node.{Node}
use Rattle.hm_marks_trees.specs.Nodes.{view, contents, PlainItem}
use Rattle.hm_marks_trees.specs.Trees.{HasDepthOf, AreDepthsOf, IsDepthOf}
use Rattle.hm_marks_trees.proofs.Items.{view_link, view_folder}
use Rattle.hm_marks_trees.proofs.NodeMeasures.{link_depth, folder_depth, one_depth, depth_known}
use Rattle.hm_marks_trees.proofs.measures.+depths.Goals as goal

pub depth_at-returns-in_ok-copy-in-Link : goal.depth_at-returns-in_ok-copy-in-Link
depth_at-returns-in_ok-copy-in-Link t c =
    subst (λ (n : Node). HasDepthOf (view n) (c.in_ok-copy-in-Link.field-0, 2)) (sym c.in-Link.is)
    (subst (λ (i : PlainItem). HasDepthOf i (c.in_ok-copy-in-Link.field-0, 2)) (sym (view_link c.in-Link.key c.in-Link.field-1))
    (link_depth (c.in-Link.key, c.in-Link.field-1) c.in_ok-copy-in-Link.field-0 c.in_ok-copy-in-Link.ensures.value))

pub depth_at-returns-in_ok-copy-in-Folder : goal.depth_at-returns-in_ok-copy-in-Folder
depth_at-returns-in_ok-copy-in-Folder t c =
    let found : Name × ℕ = (c.in_ok-copy-in-Folder.field-0, c.in_ok-depth-in-Folder.depth) in
    let inside = subst (λ (l : List Node). IsDepthOf (contents l) c.in_ok-depth_of-in-Folder.field-0) c.deref.ensures.value c.in_ok-depth_of-in-Folder.ensures in
    subst (λ (n : Node). HasDepthOf (view n) found) (sym c.in-Folder.is)
    (subst (λ (i : PlainItem). HasDepthOf i found) (sym (view_folder c.in-Folder.key c.in-Folder.inside))
    (folder_depth c.in-Folder.key found.0 (contents c.in-Folder.inside.items) c.in_ok-depth_of-in-Folder.field-0 found.1 c.in_ok-copy-in-Folder.ensures.value
    inside c.in_ok-depth-in-Folder.ensures))

pub depth_of-loop-node-preserved : goal.depth_of-loop-node-preserved
depth_of-loop-node-preserved t c =
    let nodes = c.args.nodes.now in
    let next = take_more nodes c.loop-node.node-index c.node-item.result c.loop-node-test.true ∙ ap (λ n. take c.loop-node.node-index nodes ++ n ∷ []) (sym c.node-item.is) in
    one_depth (take c.loop-node.node-index nodes) _ c.loop-node.depths.items c.push.new.self.items c.node-item.result c.in_ok-depth_at.field-0 c.loop-node.invariant
    next c.in_ok-push.ensures.items c.in_ok-depth_at.ensures

pub depth_of-returns : goal.depth_of-returns
depth_of-returns t c =
    let nodes = c.args.nodes.now in
    let all = subst (λ (l : List Node). AreDepthsOf l c.loop-node.depths.items) (take_all c.loop-node.node-index nodes c.loop-node-test.false) c.loop-node.invariant in
    IfOk-weaker c.depth_of_items.result _ _ (λ found known. depth_known nodes c.loop-node.depths.items found all known) c.depth_of_items.ensures
