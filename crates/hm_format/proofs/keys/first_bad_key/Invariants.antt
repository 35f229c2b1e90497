use Rattle.std.proofs.Common.{◌≡◌, take, drop, map, []}
use Rattle.hm_schema.specs.Values.{options_value}
use Rattle.hm_format.specs.Options.{rule_of, first_bad}
use Rattle.hm_format.proofs.keys.first_bad_key.Given as goal

abbrev pub invariant-loop-place : goal.invariant-loop-place
invariant-loop-place l =
    first_bad (map rule_of l.keys) (options_value l.options).type_names (take l.place (options_value l.options).pairs) (drop l.place (options_value l.options).pairs)
    ≡ first_bad (map rule_of l.keys) (options_value l.options).type_names [] (options_value l.options).pairs
