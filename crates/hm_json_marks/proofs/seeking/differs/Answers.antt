use Rattle.std.proofs.lemmas.Result.{IfOk-weaker}
use Rattle.serde_json.specs.View.{view}
use Rattle.hm_json_marks.proofs.OtherFile.{other_bar, other_others}
use Rattle.hm_json_marks.proofs.seeking.differs.Goals as goal

pub returns-then-branch : goal.returns-then-branch
returns-then-branch c = λ yes.
    let found = rw c.in-Some.is at c.roots_of.ensures in
    other_bar c.args.tree.now _ _ c.folders_of.ensures (view c.args.file.now) _ _ found.0 found.1 (c.in_ok-root_differs.ensures c.if-branch.true)

pub returns : goal.returns
returns c =
    let found = rw c.in-Some.is at c.roots_of.ensures in
    IfOk-weaker c.root_differs-2.result _ _
    (λ other h yes. other_others c.args.tree.now _ _ c.folders_of.ensures (view c.args.file.now) _ _ found.0 found.1 (h yes)) c.root_differs-2.ensures
