use Rattle.std.proofs.Common.{arith}
use Rattle.std.proofs.lemmas.Grind.{common_steps}
use Rattle.hm_command_line.proofs.Matches.{utf8_more}
use Rattle.hm_command_line.proofs.line.texts_of.Goals as goal

pub loop-word-preserved : goal.loop-word-preserved
loop-word-preserved c = record {
  values = grind (arith, common_steps);
  utf8 = utf8_more c.args.words.now c.loop-word.word-index c.word-item.result (omega arith) c.word-item.is c.text.ensures.utf8 c.loop-word.invariant.utf8;
}
