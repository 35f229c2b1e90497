use Rattle.std.proofs.Common.{◌≡◌, map, drop}
use Rattle.hm_schema.specs.Values.{pair_value}
use Rattle.hm_format.specs.Options.{values_of}
use Rattle.hm_format.proofs.keys.values_of.Given as goal

abbrev pub invariant-loop-pair : goal.invariant-loop-pair
invariant-loop-pair l = values_of (map pair_value (drop l.pair-index l.pairs)) l.key ≡ values_of (map pair_value l.pairs) l.key
