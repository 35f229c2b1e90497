use Rattle.hm_certify.proofs.MarksAlong.{FoundOn}
use Rattle.hm_certify.proofs.marks.is_topmost.Given as goal

abbrev pub invariant-loop-name : goal.invariant-loop-name
invariant-loop-name l = FoundOn l.archive l.here l.name-items l.name-index
