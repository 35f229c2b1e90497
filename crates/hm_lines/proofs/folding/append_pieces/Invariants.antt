use Rattle.std.proofs.Common.{length, ◌≡◌, ◌++◌, ◌≤◌, List, ℕ}
use denote.Text.{Utf8}
use denote.Shadow.{shadow}
use Rattle.hm_lines.proofs.FoldedPieces.{IsBehind}
use Rattle.hm_lines.proofs.folding.append_pieces.Given as goal

abbrev pub invariant-loop-limit : goal.invariant-loop-limit
invariant-loop-limit l = record {
  text : shadow (Utf8 l.rest);
  room : 4 ≤ l.limit;
  kept : (more : List ℕ) × (l.folded.items ≡ l.initial.folded.items ++ more);
  pieces : IsBehind l.line l.initial.folded.items l.folded.items l.limit l.rest;
}

abbrev pub decreases-loop-limit : goal.decreases-loop-limit
decreases-loop-limit l = length l.rest
