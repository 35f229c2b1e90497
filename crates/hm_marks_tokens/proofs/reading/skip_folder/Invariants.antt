use Rattle.std.proofs.Common.{◌≡◌, ◌+◌, ◌≤◌, length}
use Rattle.hm_marks_tokens.specs.Lent.{place_seen, state_seen}
use Rattle.hm_marks_tokens.specs.Reading.{over}
use Rattle.hm_marks_tokens.proofs.Steps.{HasRead}
use Rattle.hm_marks_tokens.proofs.reading.skip_folder.Given as goal

abbrev pub decreases-loop-symbol : goal.decreases-loop-symbol
decreases-loop-symbol l = length l.rest

abbrev pub invariant-loop-symbol : goal.invariant-loop-symbol
invariant-loop-symbol l = record {
  read : HasRead l.bytes l.number (state_seen l.state) l.rest;
  goes : place_seen l.state.place ≡ over → ⊥;
  few : l.state.lists ≤ l.number;
  room : l.number + length l.rest ≤ length l.bytes;
}
