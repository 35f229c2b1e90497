use Rattle.std.proofs.Common.{◌≡◌, take}
use Rattle.hm_changes_report.proofs.text.below.Given as goal

abbrev pub invariant-loop-step : goal.invariant-loop-step
invariant-loop-step l = l.names.items ≡ take l.step-index l.step-items
