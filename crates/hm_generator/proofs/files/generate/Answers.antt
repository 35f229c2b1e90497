use Rattle.std.proofs.Common.{rules}
use Rattle.hm_generator.specs.Generated.{generated}
use Rattle.hm_generator.proofs.files.generate.Goals as goal

pub returns : goal.returns
unfolding generated
returns c = search rules
