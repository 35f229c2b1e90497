use Rattle.std.proofs.Common.{rules, codes}
use Rattle.hm_generator.specs.Generated.{row, left_bytes}
use Rattle.hm_generator.proofs.OneMore.{all_put}
use Rattle.hm_generator.proofs.files.left.Goals as goal

pub loop-before-preserved : goal.loop-before-preserved
loop-before-preserved c = all_put (codes "Name,Phone,Email\n") _ _ row c.loop-before.before c.loop-before.invariant c.in_ok-put_row.ensures

pub returns : goal.returns
unfolding left_bytes
returns c = search rules
