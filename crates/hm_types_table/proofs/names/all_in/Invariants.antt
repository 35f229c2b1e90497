use Rattle.std.proofs.Common.{◌≡◌, All, take}
use Rattle.std.specs.FinSet.{contains}
use Rattle.hm_types_table.proofs.names.all_in.Given as goal

abbrev pub invariant-loop-name : goal.invariant-loop-name
invariant-loop-name l = All (λ k. contains l.names k ≡ l.inside) (take l.name-index l.name-items)
