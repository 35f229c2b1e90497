use Rattle.std.proofs.Common.{◌≡◌, take}
use Rattle.hm_lines.specs.Values.{escaped}
use Rattle.hm_lines.proofs.values.escape.Given as goal

abbrev pub invariant-loop-byte : goal.invariant-loop-byte
invariant-loop-byte l = l.value.items ≡ escaped (take l.byte-index l.bytes)
