use Rattle.std.proofs.Common.{refl}
use Rattle.std.proofs.lemmas.List.{length-map}
use Rattle.std.proofs.lemmas.Option.{slice_get-map}
use Rattle.hm_tree.specs.Archives.{edges-recorded}
use Rattle.hm_tree_text.proofs.writer.TreeWritten.edge.Goals as goal

pub edge-requires : goal.edge-requires
edge-requires c = rw (edges-recorded c.args.self.now, length-map) at c.requires

pub returns : goal.returns
returns c = rw (edges-recorded c.args.self.now, slice_get-map, c.edge.ensures) refl
