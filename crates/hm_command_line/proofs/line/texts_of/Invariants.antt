use Rattle.std.proofs.Common.{◌≡◌, map, take}
use Rattle.hm_command_line.specs.Parse.{AreUtf8}
use Rattle.hm_command_line.proofs.line.texts_of.Given as goal

abbrev pub invariant-loop-word : goal.invariant-loop-word
invariant-loop-word l = record {
  values : map (λ text. text.now) l.texts.items ≡ take l.word-index l.words;
  utf8 : AreUtf8 (take l.word-index l.words);
}
