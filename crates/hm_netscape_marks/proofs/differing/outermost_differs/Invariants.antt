use Rattle.std.proofs.Common.{ℕ, List, length, IsUtf8}
use Rattle.hm_marks_tokens.specs.Symbols.{Symbol}
use Rattle.hm_marks_tokens.specs.Grammar.{Contents}
use Rattle.hm_netscape_entries.specs.Next.{IsLeft}
use Rattle.hm_netscape_marks.proofs.Fronts.{IsFront}
use Rattle.hm_netscape_marks.proofs.differing.outermost_differs.Given as goal

abbrev pub invariant-loop-next : goal.invariant-loop-next
invariant-loop-next l = record {
  utf8 : IsUtf8 l.rest;
  front : (c : Contents) (more : List Symbol) (rest : List ℕ) → IsLeft l.bytes c more rest → IsFront l.bar l.other c l.left l.rest more rest;
}

abbrev pub decreases-loop-next : goal.decreases-loop-next
decreases-loop-next l = length l.rest
