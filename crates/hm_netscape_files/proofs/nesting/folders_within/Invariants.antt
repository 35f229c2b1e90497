use Rattle.std.proofs.Common.{ℕ, List, length}
use Rattle.hm_marks_tokens.specs.Symbols.{Symbol}
use Rattle.hm_marks_tokens.specs.Grammar.{Contents}
use Rattle.hm_netscape_entries.specs.Next.{IsLeft}
use Rattle.hm_netscape_files.specs.Opened.{folders_within}
use Rattle.hm_netscape_files.proofs.Outermost.{IsWithin}
use Rattle.hm_netscape_files.proofs.nesting.folders_within.Given as goal

abbrev pub decreases-loop-attributes : goal.decreases-loop-attributes
decreases-loop-attributes l = length l.rest

abbrev pub invariant-loop-attributes : goal.invariant-loop-attributes
invariant-loop-attributes l =
    (c : Contents) (more : List Symbol) (rest : List ℕ) → IsLeft l.bytes c more rest → IsWithin (folders_within c) l.found l.deepest l.rest more rest
