use Rattle.std.proofs.Common.{All, List, IsUtf8, map, sym, ap, subst, ◌∙◌, arith}
use Rattle.std.proofs.lemmas.List.{take_all, get_or-map, length-map}
use Rattle.std.proofs.lemmas.List.Elements.{All-more}
use Rattle.hm_tree.specs.Names.{Name}
use Rattle.hm_schema.specs.Values.{pair_value}
use Rattle.hm_format.proofs.sound.values_are_texts.Goals as goal

pub loop-pair-preserved : goal.loop-pair-preserved
loop-pair-preserved c =
    let pairs = c.args.pairs.now in
    let i = c.loop-pair.pair-index in
    let here = get_or-map pair_value pairs i c.pair-item.result (pair_value c.pair-item.result) c.loop-pair-test.true in
    All-more (λ (p : Name × List Name). All IsUtf8 p.1) (map pair_value pairs) i (pair_value c.pair-item.result)
    (let size = length-map pairs pair_value in let within = c.loop-pair-test.true in omega arith)
    c.loop-pair.invariant (subst (λ (p : Name × List Name). All IsUtf8 p.1) (sym (here ∙ ap pair_value (sym c.pair-item.is)))
    (subst (All IsUtf8) c.deref.ensures.value c.names_are_texts.ensures))

pub returns : goal.returns
returns c =
    let pairs = c.args.pairs.now in
    subst (All (λ (p : Name × List Name). All IsUtf8 p.1)) (take_all c.loop-pair.pair-index (map pair_value pairs)
    (let size = length-map pairs pair_value in let within = c.loop-pair-test.false in omega arith)) c.loop-pair.invariant
