use Rattle.std.proofs.Common.{◌≡◌, length}
use Rattle.hm_types_table.specs.Classes.{AreVertices}
use Rattle.hm_types_table.proofs.graph.graph_of.Given as goal

abbrev pub invariant-loop-place : goal.invariant-loop-place
invariant-loop-place l = record {
  size : length l.graph.items ≡ l.place;
  vertices : AreVertices l.nodes l.outlines l.graph.items;
}
