use Rattle.std.proofs.Common.{List, ℕ, ◌≤◌, length}
use Rattle.hm_marks_tokens.specs.Symbols.{Symbol, IsNextSymbol, HasNoSymbol}
use Rattle.hm_marks_tokens.proofs.symbol.next_symbol.Given as goal

abbrev pub decreases-loop-token : goal.decreases-loop-token
decreases-loop-token l = length l.rest

abbrev pub invariant-loop-token : goal.invariant-loop-token
invariant-loop-token l = record {
  within : length l.rest ≤ length l.bytes;
  found : (m : Symbol) (rest : List ℕ) → IsNextSymbol l.titled l.rest m rest → IsNextSymbol l.titled l.bytes m rest;
  none : HasNoSymbol l.titled l.rest → HasNoSymbol l.titled l.bytes;
}
