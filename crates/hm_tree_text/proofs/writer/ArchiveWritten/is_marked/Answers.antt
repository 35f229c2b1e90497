use Rattle.std.proofs.Common.{sym, ◌∙◌}
use Rattle.hm_tree_text.proofs.Putting.{present_marked, present_unmarked}
use Rattle.hm_tree_text.proofs.writer.ArchiveWritten.is_marked.Goals as goal

pub returns-in-Marked : goal.returns-in-Marked
returns-in-Marked c = sym (present_marked c.args.self.now (sym c.root.ensures ∙ c.in-Marked.is))

pub returns-in_default : goal.returns-in_default
returns-in_default c = sym (present_unmarked c.args.self.now (λ e. c.in_default.not-Marked (c.root.ensures ∙ e)))
