use Rattle.std.proofs.Common.{◌≡◌, ◌+◌, drop}
use Rattle.hm_tree_text.specs.NameRest.{shared}
use Rattle.hm_tree_text.proofs.name_fault.shared.Given as goal

abbrev pub invariant-loop-count : goal.invariant-loop-count
invariant-loop-count l = l.count + shared (drop l.count l.one) (drop l.count l.other) ≡ shared l.one l.other
