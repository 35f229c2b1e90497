use Rattle.hm_schema_lines.proofs.Doubles.{AreSingle}
use Rattle.hm_schema_lines.proofs.judge.has_double.Given as goal

abbrev pub invariant-loop-place : goal.invariant-loop-place
invariant-loop-place l = AreSingle l.names l.firsts l.place
