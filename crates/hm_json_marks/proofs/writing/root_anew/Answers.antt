use Rattle.std.proofs.Common.{ap, ◌∙◌}
use Rattle.hm_facts.proofs.Results.{on_ok}
use Rattle.serde_json.specs.Data.{put}
use Rattle.serde_json.specs.View.{view, members_view}
use Rattle.hm_json_marks.proofs.WrittenRoots.{root_written, root_taken, root_with_members}
use Rattle.hm_json_marks.proofs.writing.root_anew.Goals as goal

pub folder_written-requires-clause-node : goal.folder_written-requires-clause-node
folder_written-requires-clause-node c =
    let r = c.requires.root in
    let same = root_taken c.args.key.now (members_view c.args.roots.now.entries) c.in-Some.root c.in_ok-root.field-0 r.node c.in_ok-root.ensures.old c.in-Some.is r.at in
    (r.root.members, r.root.children, r.root.contents, root_with_members c.in-Some.root r.node r.root same)

pub returns : goal.returns
returns c = on_ok _ _ c.set.result (λ is d r at.
    let old = members_view c.args.roots.now.entries in
    let same = root_taken c.args.key.now old c.in-Some.root c.in_ok-root.field-0 d c.in_ok-root.ensures.old c.in-Some.is at in
    root_written c.args.key.now c.args.tree.now d r old (members_view c.set.new.members.entries) (view c.in_ok-new-in-Some.new) _
    (c.in_ok-new-in-Some.ensures r.members r.children r.contents (root_with_members c.in-Some.root d r same))
    (is ∙ ap (put c.args.key.now (view c.in_ok-new-in-Some.new)) c.in_ok-root.ensures.new)) c.set.ensures
