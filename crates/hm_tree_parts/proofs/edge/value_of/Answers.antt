use Rattle.hm_tree_parts.proofs.Edges.{one_name}
use Rattle.hm_tree_parts.proofs.edge.value_of.Goals as goal

pub returns : goal.returns
returns c = one_name _ _ _ c.requires c.edge.ensures
