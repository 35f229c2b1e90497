use Rattle.std.proofs.Common.{[], sym, subst}
use Rattle.std.specs.Str.{IsUtf8}
use Rattle.std.proofs.lemmas.Result.{IfOk-weaker}
use Rattle.hm_netscape_files.proofs.ListText.{list_text}
use Rattle.hm_netscape_marks.proofs.Fronts.{bar_has_all, other_has_all, file_left}
use Rattle.hm_netscape_marks.proofs.differing.differs.Goals as goal

pub outermost_differs-requires-clause-folder : goal.outermost_differs-requires-clause-folder
outermost_differs-requires-clause-folder c =
    let f = c.requires.read.1.0 in
    let list = file_left c.args.bytes.now c.split_at.result.1.now c.in-Some.len f.contents f.file c.in-Some.ensures c.split_at.ensures.back in
    (f.contents, ([], (f.file.tail, c.list_inside.ensures.left f.contents f.file.tail list)))

pub outermost_differs-requires-clause-utf8 : goal.outermost_differs-requires-clause-utf8
outermost_differs-requires-clause-utf8 c =
    c.list_inside.ensures.utf8
    (subst IsUtf8 (sym c.split_at.ensures.back) (list_text c.args.bytes.now c.in-Some.len c.requires.read.1.0.file.text c.in-Some.ensures))

pub returns : goal.returns
returns c = IfOk-weaker c.outermost_differs.result _ _ (λ found h differs read.
    let f = read.0 in
    let list = file_left c.args.bytes.now c.split_at.result.1.now c.in-Some.len f.contents f.file c.in-Some.ensures c.split_at.ensures.back in
    let bar = c.folders_of.result.0.now in
    let other = c.folders_of.result.1.now in
    h differs f.contents [] f.file.tail (c.list_inside.ensures.left f.contents f.file.tail list)
    (bar_has_all c.args.tree.now bar other c.folders_of.ensures f.contents f.tree) (other_has_all c.args.tree.now bar other c.folders_of.ensures f.contents f.tree))
    c.outermost_differs.ensures
