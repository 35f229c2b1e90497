use Rattle.std.proofs.Common.{◌≡◌, drop, map}
use Rattle.hm_schema.specs.Values.{pair_value}
use Rattle.hm_format.specs.Options.{rule_of, first_missing}
use Rattle.hm_format.proofs.keys.first_missing.Given as goal

abbrev pub invariant-loop-key : goal.invariant-loop-key
invariant-loop-key l = first_missing (map rule_of (drop l.key-index l.keys)) (map pair_value l.pairs) ≡ first_missing (map rule_of l.keys) (map pair_value l.pairs)
