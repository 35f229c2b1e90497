use Rattle.hm_csv_columns.proofs.SameNames.{edge_apart, edge_same, not_the_same}
use Rattle.hm_csv_columns.proofs.staying.same_each.Goals as goal

pub returns-then-not-same : goal.returns-then-not-same
returns-then-not-same c =
    edge_apart c.args.names.now c.args.edges.now c.loop-place.place c.index-names-place.result c.index-edges-place.result c.requires c.loop-place-test.true
    c.index-names-place.is c.loop-place.invariant (not_the_same c.same.result _ _ c.same.ensures c.if-not-same.true)

pub loop-place-preserved : goal.loop-place-preserved
loop-place-preserved c =
    edge_same c.args.names.now c.args.edges.now c.loop-place.place c.index-names-place.result c.index-edges-place.result c.requires c.loop-place-test.true
    c.index-names-place.is c.loop-place.invariant (c.same.ensures.0 c.if-not-same.false)
