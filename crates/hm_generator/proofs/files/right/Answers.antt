use Rattle.std.proofs.Common.{rules, []}
use Rattle.hm_generator.specs.Generated.{card, right_bytes}
use Rattle.hm_generator.proofs.OneMore.{all_put}
use Rattle.hm_generator.proofs.files.right.Goals as goal

pub loop-before-preserved : goal.loop-before-preserved
loop-before-preserved c = all_put [] _ _ card c.loop-before.before c.loop-before.invariant c.in_ok-put_card.ensures

pub returns : goal.returns
unfolding right_bytes
returns c = search rules
