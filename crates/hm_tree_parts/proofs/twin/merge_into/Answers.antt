use Rattle.hm_tree_parts.proofs.Merged.{merged_back}
use Rattle.hm_tree_parts.proofs.twin.merge_into.Goals as goal

pub returns : goal.returns
returns c = merged_back _ _ _ _ _ _ _ c.requires.there c.in_ok-child.ensures c.in_ok-copy.ensures.value c.in_ok-insert.ensures.ok
