use Rattle.std.proofs.Common.{Err, ap, ◌∙◌}
use Rattle.hm_json_marks.proofs.reading.whole_tree.Goals as goal

pub returns-in-Err-TooDeep : goal.returns-in-Err-TooDeep
returns-in-Err-TooDeep c = c.bookmarks_tree.ensures.too_deep c.in-Err-TooDeep.depth (c.in-Err-TooDeep.is ∙ ap Err c.in-Err-TooDeep.field-0-is)
