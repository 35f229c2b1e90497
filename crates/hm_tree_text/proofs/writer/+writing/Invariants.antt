use Rattle.std.proofs.Common.{◌≡◌, ◌+◌, ◌*◌, ◌++◌, ◌∷◌, drop}
use Rattle.hm_tree.specs.Nodes.{depth, edges}
use Rattle.hm_tree_text.specs.Text.{inside}
use Rattle.hm_tree_text.proofs.writer.+writing.Given as goal

abbrev pub decreases-put_whole : goal.decreases-put_whole
decreases-put_whole g l = 2 * depth (g.N.Written.node l.node.now)

abbrev pub decreases-put_below : goal.decreases-put_below
decreases-put_below g l = 2 * depth (g.N.Written.node l.node.now) + 1

abbrev pub invariant-put_whole-loop-place : goal.invariant-put_whole-loop-place
invariant-put_whole-loop-place g l = l.text.items ++ inside (drop l.place (edges (g.N.Written.node l.node))) ≡ l.fn.text.items ++ 123 ∷ inside
    (edges (g.N.Written.node l.node))
