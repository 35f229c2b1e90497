use Rattle.hm_marks_schema.proofs.OneItem.{no_folder, one_folder}
use Rattle.hm_marks_schema.proofs.sought.folder_at.Goals as goal

pub returns-in-Folder : goal.returns-in-Folder
returns-in-Folder c =
    let is = rw c.in-Folder.is at c.item_of.ensures in
    (is.1, one_folder c.args.key.now c.args.tree.now c.in-One.item.now c.in-One.ensures.1 c.in-Folder.inside.now is.0)

pub returns-in-Link : goal.returns-in-Link
returns-in-Link c =
    let is = rw c.in-Link.is at c.item_of.ensures in
    no_folder c.args.key.now c.args.tree.now c.in-One.item.now c.in-One.ensures.1 c.in-Link.field-0.now is.0
