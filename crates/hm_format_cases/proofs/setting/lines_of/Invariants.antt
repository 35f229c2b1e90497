use Rattle.std.proofs.Common.{All}
use Rattle.std.specs.Str.{IsUtf8}
use Rattle.hm_format_cases.proofs.setting.lines_of.Given as goal

abbrev pub invariant-loop-text : goal.invariant-loop-text
invariant-loop-text l = All (λ line. IsUtf8 line.items) l.lines.items
