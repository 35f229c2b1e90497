use Rattle.std.proofs.Common.{◌≡◌, map, drop}
use Rattle.std.specs.FinMap.{find}
use Rattle.hm_tree.specs.Names.{name_cmp}
use Rattle.hm_schema.specs.Values.{pair_value}
use Rattle.hm_format.proofs.keys.has_key.Given as goal

abbrev pub invariant-loop-pair : goal.invariant-loop-pair
invariant-loop-pair l = find name_cmp l.name (map pair_value (drop l.pair-index l.pairs)) ≡ find name_cmp l.name (map pair_value l.pairs)
