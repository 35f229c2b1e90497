use Rattle.std.proofs.Common.{◌≡◌, ◌++◌, take}
use Rattle.std.specs.Prelude.{flat_map}
use Rattle.hm_changes_report.specs.Text.{alike_line}
use Rattle.hm_changes_report.proofs.text.put_alikes.Given as goal

abbrev pub invariant-loop-alike : goal.invariant-loop-alike
invariant-loop-alike l = l.text.items ≡ l.fn.text.items ++ flat_map (alike_line l.view) (take l.alike-index l.alikes)
