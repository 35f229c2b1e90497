use Rattle.std.proofs.Common.{sym, ◌∙◌}
use Rattle.hm_tree.proofs.Deepest.{depth_kept}
use Rattle.hm_tree.proofs.tree.Tree.depth.Goals as goal

pub returns : goal.returns
returns c = c.self.invariant.deep ∙ sym (depth_kept _ _ c.self.invariant.edges c.self.view_is)
