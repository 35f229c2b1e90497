use Rattle.std.proofs.Common.{◌∙◌}
use Rattle.hm_tree_text.proofs.Putting.{count_present}
use Rattle.hm_tree_text.proofs.writer.ArchiveWritten.count.Goals as goal

pub returns : goal.returns
returns c = c.count.ensures ∙ count_present c.args.self.now
