use Rattle.std.proofs.Common.{◌≡◌, ◌++◌, take}
use Rattle.std.specs.Prelude.{flat_map}
use Rattle.hm_report.specs.Text.{conflict_line}
use Rattle.hm_report.proofs.text.put_conflicts.Given as goal

abbrev pub invariant-loop-conflict : goal.invariant-loop-conflict
invariant-loop-conflict l = l.report.items ≡ l.fn.report.items ++ flat_map conflict_line (take l.conflict-index l.conflicts)
