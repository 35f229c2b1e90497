use Rattle.std.proofs.Common.{sym, ap, ◌∙◌}
use Rattle.std.proofs.lemmas.Result.{IfOk-weaker}
use Rattle.serde_json.specs.View.{view, items_view}
use Rattle.hm_json_nodes.specs.Kinds.{kind_seen}
use Rattle.hm_json_nodes.proofs.Seen.{link_seen, folder_seen, neither_seen}
use Rattle.hm_json_marks.proofs.RootNodes.{link_root, neither_root}
use Rattle.hm_json_marks.proofs.OtherFile.{other_children, no_folder}
use Rattle.hm_json_marks.proofs.seeking.root_differs.Goals as goal

pub returns-in-Folder : goal.returns-in-Folder
returns-in-Folder c =
    let d = view c.args.root.now in
    let children = items_view c.in-Folder.children.now.items in
    let f = folder_seen d _ children (ap kind_seen (sym c.in-Folder.is) ∙ c.kind_of.ensures) in
    IfOk-weaker c.is_other_tree.result _ _ (λ other h yes. other_children c.args.tree.now d _ children f (h yes)) c.is_other_tree.ensures

pub returns-in-Link : goal.returns-in-Link
returns-in-Link c = λ yes.
    let d = view c.args.root.now in
    let l = link_seen d c.in-Link.field-0.now c.in-Link.field-1.now (ap kind_seen (sym c.in-Link.is) ∙ c.kind_of.ensures) in
    no_folder c.args.tree.now d (link_root d _ _ l)

pub returns-in-Neither : goal.returns-in-Neither
returns-in-Neither c = λ yes.
    let d = view c.args.root.now in
    no_folder c.args.tree.now d (neither_root d (neither_seen d (ap kind_seen (sym c.in-Neither.is) ∙ c.kind_of.ensures)))
