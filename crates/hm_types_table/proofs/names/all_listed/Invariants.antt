use Rattle.std.proofs.Common.{All, take, IsTrue}
use Rattle.std.specs.List.{list_any}
use Rattle.std.specs.Ordering.{eq_by_cmp}
use Rattle.hm_tree.specs.Names.{name_cmp}
use Rattle.hm_types_table.proofs.names.all_listed.Given as goal

abbrev pub invariant-loop-name : goal.invariant-loop-name
invariant-loop-name l = All (λ k. IsTrue (list_any (eq_by_cmp name_cmp k) l.names)) (take l.name-index l.name-items)
