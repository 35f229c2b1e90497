use Rattle.std.proofs.Common.{◌≡◌, length}
use Rattle.format_trials.proofs.texts.numbers.Given as goal

abbrev pub invariant-loop-place : goal.invariant-loop-place
invariant-loop-place l = length l.names.items ≡ l.place-counter
