use Rattle.std.proofs.Common.{All, IsUtf8, subst, arith}
use Rattle.std.proofs.lemmas.List.{take_all}
use Rattle.std.proofs.lemmas.List.Elements.{All-more}
use Rattle.hm_format.proofs.sound.names_are_texts.Goals as goal

pub loop-name-preserved : goal.loop-name-preserved
loop-name-preserved c =
    All-more IsUtf8 c.args.names.now c.loop-name.name-index c.name-item.result (omega arith)
    c.loop-name.invariant (subst IsUtf8 c.name-item.is c.text.ensures.utf8)

pub returns : goal.returns
returns c =
    subst (All IsUtf8) (take_all c.loop-name.name-index c.args.names.now (omega arith)) c.loop-name.invariant
