use Rattle.std.proofs.Common.{◌≡◌, take}
use Rattle.hm_focal.specs.OwnLines.{own_values, named_nodes}
use Rattle.hm_focal.proofs.program.named_nodes.Given as goal

abbrev pub invariant-loop-line : goal.invariant-loop-line
invariant-loop-line l = l.names.items ≡ named_nodes (own_values (take l.line-index l.own))
