use Rattle.std.proofs.Common.{◌≡◌, ◌+◌, drop}
use Rattle.hm_marks_tokens.specs.Symbols.{name_len}
use Rattle.hm_marks_tokens.proofs.symbol.name_len.Given as goal

abbrev pub invariant-loop-place : goal.invariant-loop-place
invariant-loop-place l = l.place + name_len (drop l.place l.inside) ≡ name_len l.inside
