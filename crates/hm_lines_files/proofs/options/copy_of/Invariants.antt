use Rattle.std.proofs.Common.{◌≡◌, map, take}
use Rattle.hm_schema.specs.Values.{pair_value}
use Rattle.hm_lines_files.proofs.options.copy_of.Given as goal

abbrev pub invariant-loop-pair : goal.invariant-loop-pair
invariant-loop-pair l = map pair_value l.copies.items ≡ map pair_value (take l.pair-index l.pairs)
