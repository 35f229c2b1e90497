use Rattle.std.proofs.Common.{suc, All, take}
use Rattle.hm_schema_lines.specs.Judging.{lines_of}
use Rattle.hm_schema_lines.specs.BadLines.{Lists, around}
use Rattle.hm_schema_lines.proofs.judge.has_unlisted.Given as goal

abbrev pub invariant-loop-name : goal.invariant-loop-name
invariant-loop-name l = All (Lists (around (lines_of l.line) (suc l.line.place))) (take l.name-index l.names)
