use Rattle.std.proofs.Common.{◌≡◌, take, map}
use Rattle.hm_schema.specs.Values.{pair_value}
use Rattle.hm_format.specs.Options.{all_values}
use Rattle.hm_format.proofs.keys.earlier_values.Given as goal

abbrev pub invariant-loop-pair : goal.invariant-loop-pair
invariant-loop-pair l = l.values.items ≡ all_values (map pair_value (take l.pair-index l.pairs))
