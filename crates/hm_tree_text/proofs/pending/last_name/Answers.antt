use Rattle.hm_tree_text.proofs.Making.{last_after}
use Rattle.hm_tree_text.proofs.pending.last_name.Goals as goal

pub returns-in-Some : goal.returns-in-Some
returns-in-Some g c = last_after _ c.args.pending.now c.args.start c.requires.before _ c.in-Some.ensures.value
