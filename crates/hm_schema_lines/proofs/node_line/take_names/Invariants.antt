use Rattle.std.proofs.Common.{◌≡◌, ◌++◌, length}
use Rattle.hm_schema_lines.specs.Reading.{names_at}
use Rattle.hm_schema_lines.proofs.node_line.take_names.Given as goal

abbrev pub invariant-loop-name : goal.invariant-loop-name
invariant-loop-name l = names_at l.initial.tokens.items ≡ (l.names.items ++ (names_at l.tokens.items).0, (names_at l.tokens.items).1)

abbrev pub decreases-loop-name : goal.decreases-loop-name
decreases-loop-name l = length l.tokens.items
