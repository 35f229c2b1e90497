use Rattle.hm_generator.specs.Generated.{right_lens}
use Rattle.hm_generator.proofs.texts.right_lens.Goals as goal

pub returns : goal.returns
unfolding right_lens
returns c = c.in_ok-from_slice.ensures.items
