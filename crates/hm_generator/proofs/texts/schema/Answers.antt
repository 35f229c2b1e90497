use Rattle.hm_generator.specs.Generated.{schema_bytes}
use Rattle.hm_generator.proofs.texts.schema.Goals as goal

pub returns : goal.returns
unfolding schema_bytes
returns c = c.in_ok-from_slice.ensures.items
