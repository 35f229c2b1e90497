use Rattle.std.proofs.Common.{ℕ, List, length}
use Rattle.hm_marks_tokens.specs.Symbols.{Symbol}
use Rattle.hm_marks_tokens.specs.Grammar.{Contents}
use Rattle.hm_netscape_entries.specs.Next.{IsLeft}
use Rattle.hm_netscape_writing.proofs.BarLeft.{IsBarLeft}
use Rattle.hm_netscape_writing.proofs.outermost.has_bar.Given as goal

abbrev pub invariant-loop-attributes : goal.invariant-loop-attributes
invariant-loop-attributes l = (c : Contents) (more : List Symbol) (rest : List ℕ) → IsLeft l.bytes c more rest → IsBarLeft c l.rest more rest

abbrev pub decreases-loop-attributes : goal.decreases-loop-attributes
decreases-loop-attributes l = length l.rest
