use Rattle.std.proofs.Common.{arith}
use Rattle.hm_marks_schema.proofs.TreeParts.{two_edges, the_two}
use Rattle.hm_marks_schema.proofs.parts.folders_of.Goals as goal

pub edge-requires : goal.edge-requires
edge-requires c = let two = two_edges c.args.tree.now c.requires in omega (arith, two)

pub edge-requires-2 : goal.edge-requires-2
edge-requires-2 c = let two = two_edges c.args.tree.now c.requires in omega (arith, two)

pub returns : goal.returns
returns c =
    the_two c.args.tree.now c.requires c.edge.result.0.now c.edge-2.result.0.now c.edge.result.1.now c.edge-2.result.1.now c.edge.ensures
    c.edge-2.ensures
