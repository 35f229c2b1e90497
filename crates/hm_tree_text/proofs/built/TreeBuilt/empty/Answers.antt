use Rattle.std.proofs.Common.{Some, ap, ◌∙◌}
use Rattle.hm_tree.specs.Archives.{recorded}
use Rattle.hm_tree_text.proofs.Making.{recorded_empty}
use Rattle.hm_tree_text.proofs.built.TreeBuilt.empty.Goals as goal

pub returns : goal.returns
returns c = ap (λ t. Some (recorded t)) c.empty.ensures ∙ ap Some recorded_empty
