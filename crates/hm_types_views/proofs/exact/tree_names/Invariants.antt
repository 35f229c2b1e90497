use Rattle.std.proofs.Common.{◌≡◌, take}
use Rattle.hm_types_table.specs.Tables.{keys}
use Rattle.hm_types_views.proofs.exact.tree_names.Given as goal

abbrev pub invariant-loop-edge : goal.invariant-loop-edge
invariant-loop-edge l = l.names.items ≡ keys (take l.edge-index l.edge-items)
