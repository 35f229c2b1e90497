use Rattle.std.proofs.Common.{arith}
use Rattle.std.proofs.lemmas.Grind.{common_steps}
use Rattle.hm_alike.proofs.Squeezed.{spaced-push}
use Rattle.hm_alike.proofs.squeezing.squeeze_words.Goals as goal

pub loop-piece-preserved : goal.loop-piece-preserved
loop-piece-preserved c = grind (arith, common_steps, spaced-push)
