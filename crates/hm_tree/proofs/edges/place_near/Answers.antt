use Rattle.hm_tree.proofs.Sorted.{place_read}
use Rattle.hm_tree.proofs.edges.place_near.Goals as goal

pub returns-then-same-clause-found : goal.returns-then-same-clause-found
returns-then-same-clause-found g c = place_read c.args.name.now c.args.edges.now c.requires c.args.near c.index-edges-near.result
    c.if-near-edges.true (c.same.ensures.0 c.if-same.true)
