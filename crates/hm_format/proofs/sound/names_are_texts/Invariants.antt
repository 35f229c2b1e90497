use Rattle.std.proofs.Common.{All, take, IsUtf8}
use Rattle.hm_format.proofs.sound.names_are_texts.Given as goal

abbrev pub invariant-loop-name : goal.invariant-loop-name
invariant-loop-name l = All IsUtf8 (take l.name-index l.names)
