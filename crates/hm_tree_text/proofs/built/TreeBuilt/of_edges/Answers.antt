use Rattle.hm_tree_text.proofs.Reached.{if_ok}
use Rattle.hm_tree_text.proofs.Making.{tree_edges, tree_built}
use Rattle.hm_tree_text.proofs.built.TreeBuilt.of_edges.Goals as goal

pub of_edges-requires : goal.of_edges-requires
of_edges-requires c = tree_edges _ c.requires

pub returns : goal.returns
returns c = if_ok _ _ c.of_edges.result (λ t is. tree_built _ c.requires t is) c.of_edges.ensures
