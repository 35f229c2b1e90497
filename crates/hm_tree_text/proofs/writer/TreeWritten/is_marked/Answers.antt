use Rattle.std.proofs.Common.{sym}
use Rattle.hm_tree.specs.Archives.{recorded_unmarked}
use Rattle.hm_tree_text.proofs.writer.TreeWritten.is_marked.Goals as goal

pub returns : goal.returns
returns c = sym (recorded_unmarked c.args.self.now)
