use Rattle.std.proofs.Common.{not, true≢false, sym, ap, ◌∙◌}
use Rattle.hm_marks_schema.proofs.OneItem.{other_address, no_link}
use Rattle.hm_marks_schema.proofs.sought.lacks_link.Goals as goal

pub returns-in-Link : goal.returns-in-Link
returns-in-Link c =
    let is = rw c.in-Link.is at c.item_of.ensures in
    λ lacks. other_address c.args.key.now c.args.tree.now c.in-One.item.now c.in-One.ensures.1 c.in-Link.found.now c.args.address.now is.0
    (λ same. true≢false (sym lacks ∙ ap not (c.same.ensures.1 same)))

pub returns-in-Folder : goal.returns-in-Folder
returns-in-Folder c =
    let is = rw c.in-Folder.is at c.item_of.ensures in
    λ lacks. no_link c.args.key.now c.args.tree.now c.in-One.item.now c.in-One.ensures.1 c.in-Folder.field-0.now is.0 c.args.address.now
