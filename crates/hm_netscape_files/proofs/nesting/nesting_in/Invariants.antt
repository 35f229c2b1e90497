use Rattle.std.proofs.Common.{ℕ, List, ◌+◌, ◌≤◌, length}
use Rattle.std.specs.Str.{IsUtf8}
use Rattle.hm_marks_tokens.specs.Symbols.{Symbol}
use Rattle.hm_marks_tokens.specs.Grammar.{Contents}
use Rattle.hm_netscape_entries.specs.Next.{IsLeft}
use Rattle.hm_marks_schema.specs.Nesting.{nesting}
use Rattle.hm_netscape_files.proofs.Open.{IsOpen}
use Rattle.hm_netscape_files.proofs.nesting.nesting_in.Given as goal

abbrev pub decreases-loop-within : goal.decreases-loop-within
decreases-loop-within l = length l.rest

abbrev pub invariant-loop-within : goal.invariant-loop-within
invariant-loop-within l = record {
  stands : (c : Contents) (more : List Symbol) (rest : List ℕ) → IsLeft l.bytes c more rest → IsOpen (nesting c) l.within l.deepest l.rest more rest;
  utf8 : IsUtf8 l.bytes → IsUtf8 l.rest;
  room : l.deepest + length l.rest ≤ length l.bytes;
  below : l.within ≤ l.deepest;
}
