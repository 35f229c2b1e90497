use Rattle.std.proofs.Common.{◌++◌, ap, ◌∙◌}
use Rattle.hm_tree.specs.Archives.{recorded}
use Rattle.hm_tree_text.specs.Text.{text, whole}
use Rattle.hm_tree_text.proofs.writer.spell_tree.Goals as goal

pub returns : goal.returns
unfolding recorded
returns c = c.in_ok-put_whole.ensures ∙ ap (λ l. l ++ text whole (recorded c.args.tree.now).shape) c.new-text.ensures.items
