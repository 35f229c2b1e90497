use Rattle.hm_tree_text.proofs.Walking.{byte_behind_plain}
use Rattle.hm_tree_text.proofs.name_fault.byte_at.Goals as goal

pub returns-in-None : goal.returns-in-None
returns-in-None c = byte_behind_plain _ _ c.in-None.ensures c.escaped_at.ensures
