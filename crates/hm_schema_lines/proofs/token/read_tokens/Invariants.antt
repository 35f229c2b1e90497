use Rattle.std.proofs.Common.{length}
use Rattle.hm_schema_lines.proofs.Tokens.{IsRead}
use Rattle.hm_schema_lines.proofs.token.read_tokens.Given as goal

abbrev pub invariant-loop-tokens : goal.invariant-loop-tokens
invariant-loop-tokens l = IsRead l.bytes l.tokens.items l.rest

abbrev pub decreases-loop-tokens : goal.decreases-loop-tokens
decreases-loop-tokens l = length l.rest
