use Rattle.std.proofs.Common.{All, List, take, map, IsUtf8}
use Rattle.hm_tree.specs.Names.{Name}
use Rattle.hm_schema.specs.Values.{pair_value}
use Rattle.hm_format.proofs.sound.values_are_texts.Given as goal

abbrev pub invariant-loop-pair : goal.invariant-loop-pair
invariant-loop-pair l = All (λ (p : Name × List Name). All IsUtf8 p.1) (take l.pair-index (map pair_value l.pairs))
