use Rattle.std.proofs.Common.{take}
use Rattle.std.specs.List.{All}
use Rattle.hm_outcome.specs.Trios.{given, views}
use Rattle.hm_report.specs.declared.conflict.Conflict.{Conflict}
use Rattle.hm_report.specs.Reasons.{ShowsWhy}
use Rattle.hm_certify.proofs.reasons.all_show_why.Given as goal

abbrev pub invariant-loop-conflict : goal.invariant-loop-conflict
invariant-loop-conflict l = All (λ (c : Conflict). ShowsWhy l.schema l.schema.root (views (given l.archive l.left l.right)) c.path c.why)
    (take l.conflict-index l.conflicts)
