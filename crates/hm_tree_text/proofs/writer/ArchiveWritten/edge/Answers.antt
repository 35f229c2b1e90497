use Rattle.hm_tree_text.proofs.Putting.{count_present, edge_present}
use Rattle.hm_tree_text.proofs.writer.ArchiveWritten.edge.Goals as goal

pub edge-requires : goal.edge-requires
edge-requires c = rw count_present c.requires

pub returns : goal.returns
returns c = edge_present c.args.self.now _ _ _ c.edge.ensures
