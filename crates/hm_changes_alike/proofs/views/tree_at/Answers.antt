use Rattle.std.proofs.Common.{sym, ap, ◌∙◌, drop, ◌+◌, Option}
use Rattle.hm_tree.specs.Nodes.{Tree}
use Rattle.hm_tree.specs.States.{at_path}
use Rattle.hm_tree.proofs.Paths.{tree_down}
use Rattle.hm_changes_alike.proofs.views.tree_at.Goals as goal

pub loop-name-preserved : goal.loop-name-preserved
loop-name-preserved c =
    c.loop-name.invariant
    ∙ tree_down c.loop-name.here.now c.args.path.now c.loop-name.name-index c.name-item.result c.loop-name-test.true c.name-item.is
    ∙ ap (λ (o : Option Tree). at_path o (drop (c.loop-name.name-index + 1) c.args.path.now)) (sym c.in-Some.ensures)
