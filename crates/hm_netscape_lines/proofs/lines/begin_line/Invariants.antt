use Rattle.std.proofs.Common.{◌≡◌, ◌++◌}
use Rattle.hm_marks_tokens.specs.Lines.{indent}
use Rattle.hm_netscape_lines.proofs.lines.begin_line.Given as goal

abbrev pub invariant-loop : goal.invariant-loop
invariant-loop l = l.out.items ≡ l.fn.out.items ++ indent l.counter
