use Rattle.std.proofs.Common.{◌+◌, ap, rules, false}
use Rattle.hm_tree.specs.Names.{Name}
use Rattle.hm_tree.specs.Nodes.{Node, depth}
use Rattle.hm_tree.proofs.Deepest.{most_more, most_taken}
use Rattle.hm_tree.proofs.tree.deepest.Goals as goal

pub returns-then-deep-bound : goal.returns-then-deep-bound
returns-then-deep-bound c =
    let f = λ (e : Name × Node false). depth e.1 + 1 in
    let a = most_more f c.args.edges.now c.loop-edge.edge-index c.edge-item.result c.loop-edge-test.true in
    let b = ap f c.edge-item.is in
    let d = most_taken f c.args.edges.now (c.loop-edge.edge-index + 1) in
    search rules

pub loop-edge-preserved : goal.loop-edge-preserved
loop-edge-preserved c =
    let f = λ (e : Name × Node false). depth e.1 + 1 in
    let a = most_more f c.args.edges.now c.loop-edge.edge-index c.edge-item.result c.loop-edge-test.true in
    let b = ap f c.edge-item.is in
    search rules
