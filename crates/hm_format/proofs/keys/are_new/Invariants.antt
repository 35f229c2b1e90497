use Rattle.std.proofs.Common.{◌≡◌, drop, map, not}
use Rattle.std.specs.List.{list_all}
use Rattle.hm_schema.specs.Values.{pair_value}
use Rattle.hm_format.specs.Options.{is_among, all_values}
use Rattle.hm_format.proofs.keys.are_new.Given as goal

abbrev pub invariant-loop-name : goal.invariant-loop-name
invariant-loop-name l =
    list_all (λ v. not (is_among (all_values (map pair_value l.earlier)) v)) (drop l.name-index l.names)
    ≡ list_all (λ v. not (is_among (all_values (map pair_value l.earlier)) v)) l.names
