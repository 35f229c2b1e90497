use Rattle.std.proofs.Common.{◌+◌, ap, rules, false}
use Rattle.hm_tree.specs.Names.{Name}
use Rattle.hm_tree.specs.Nodes.{Node, depth}
use Rattle.hm_tree.proofs.Deepest.{most_more}
use Rattle.hm_tree.proofs.tree.depth_above.Goals as goal

pub loop-edge-preserved : goal.loop-edge-preserved
loop-edge-preserved c =
    let f = λ (e : Name × Node false). depth e.1 + 1 in
    let a = most_more f c.args.edges.now c.loop-edge.edge-index c.edge-item.result c.loop-edge-test.true in
    let b = ap f c.edge-item.is in
    search rules
