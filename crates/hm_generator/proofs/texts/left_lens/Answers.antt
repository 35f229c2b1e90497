use Rattle.hm_generator.specs.Generated.{left_lens}
use Rattle.hm_generator.proofs.texts.left_lens.Goals as goal

pub returns : goal.returns
unfolding left_lens
returns c = c.in_ok-from_slice.ensures.items
