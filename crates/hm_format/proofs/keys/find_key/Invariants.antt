use Rattle.std.proofs.Common.{◌≡◌, map, drop}
use Rattle.std.specs.FinMap.{find}
use Rattle.hm_tree.specs.Names.{name_cmp}
use Rattle.hm_format.specs.Options.{rule_of}
use Rattle.hm_format.proofs.keys.find_key.Given as goal

abbrev pub invariant-loop-key : goal.invariant-loop-key
invariant-loop-key l = find name_cmp l.name (map rule_of (drop l.key-index l.keys)) ≡ find name_cmp l.name (map rule_of l.keys)
