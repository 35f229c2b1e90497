use Rattle.std.proofs.Common.{take}
use Rattle.std.specs.List.{All}
use Rattle.hm_report.specs.declared.conflict.Conflict.{Conflict}
use Rattle.hm_tree.specs.States.{state}
use Rattle.hm_safety.specs.Safety.{IsTopmostMark}
use Rattle.hm_certify.proofs.marks.all_topmost.Given as goal

abbrev pub invariant-loop-conflict : goal.invariant-loop-conflict
invariant-loop-conflict l = All (λ (c : Conflict). IsTopmostMark (state l.archive) c.path) (take l.conflict-index l.conflicts)
