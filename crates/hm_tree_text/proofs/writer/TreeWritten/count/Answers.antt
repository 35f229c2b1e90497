use Rattle.std.proofs.Common.{length, sym, ap, ◌∙◌}
use Rattle.std.proofs.lemmas.List.{length-map}
use Rattle.hm_tree.specs.Archives.{edges-recorded}
use Rattle.hm_tree_text.proofs.writer.TreeWritten.count.Goals as goal

pub returns : goal.returns
returns c = c.count.ensures ∙ sym (ap length (edges-recorded c.args.self.now) ∙ length-map _ _)
