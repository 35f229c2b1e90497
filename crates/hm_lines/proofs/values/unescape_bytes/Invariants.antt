use Rattle.std.proofs.Common.{◌≡◌, ◌++◌, length}
use Rattle.hm_lines.specs.Values.{unescaped}
use Rattle.hm_lines.proofs.values.unescape_bytes.Given as goal

abbrev pub decreases-loop-at : goal.decreases-loop-at
decreases-loop-at l = length l.rest

abbrev pub invariant-loop-at : goal.invariant-loop-at
invariant-loop-at l = l.text.items ++ unescaped l.rest ≡ unescaped l.value
