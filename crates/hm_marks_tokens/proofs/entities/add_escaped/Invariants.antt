use Rattle.std.proofs.Common.{◌≡◌, ◌++◌, take}
use Rattle.hm_marks_tokens.specs.Entities.{escaped}
use Rattle.hm_marks_tokens.proofs.entities.add_escaped.Given as goal

abbrev pub invariant-loop-byte : goal.invariant-loop-byte
invariant-loop-byte l = l.out.items ≡ l.fn.out.items ++ escaped (take l.byte-index l.bytes)
