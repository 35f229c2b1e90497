use Rattle.std.proofs.Common.{[], ap}
use Rattle.std.specs.Prelude.{Err}
use Rattle.hm_marks_trees.specs.Nodes.{contents}
use Rattle.hm_netscape_files.proofs.WholeFiles.{nested, read, over}
use Rattle.hm_netscape_files.proofs.reading.read_bookmarks.Goals as goal

pub returns-then-depth-gt-MOST_FOLDERS : goal.returns-then-depth-gt-MOST_FOLDERS
returns-then-depth-gt-MOST_FOLDERS c =
    let is = c.in_ok-inside.ensures.inside in
    nested c.args.bytes.now c.in_ok-inside.inside.now is c.folders_within-depth.result (c.folders_within-depth.ensures is.contents [] is.rest is.left)
    c.if-depth-gt-MOST_FOLDERS.true

pub returns-in-Ok : goal.returns-in-Ok
returns-in-Ok c =
    let is = c.in_ok-inside.ensures.inside in
    let found = c.in_ok-found.found in
    read c.args.bytes.now c.in_ok-inside.inside.now is (contents found.bar.items) (contents found.other.items)
    (c.in_ok-found.ensures.bar is.contents [] is.rest is.left) (c.in_ok-found.ensures.other is.contents [] is.rest is.left) c.in-Ok.tree c.in-Ok.ensures.tree

pub returns-in-Err-TooDeep : goal.returns-in-Err-TooDeep
returns-in-Err-TooDeep c =
    let is = c.in_ok-inside.ensures.inside in
    let found = c.in_ok-found.found in
    over c.args.bytes.now c.in_ok-inside.inside.now is (contents found.bar.items) (contents found.other.items)
    (c.in_ok-found.ensures.bar is.contents [] is.rest is.left) (c.in_ok-found.ensures.other is.contents [] is.rest is.left) c.in-Err-TooDeep.depth
    (c.in-Err-TooDeep.ensures.too_deep c.in-Err-TooDeep.depth (ap Err c.in-Err-TooDeep.field-0-is))
